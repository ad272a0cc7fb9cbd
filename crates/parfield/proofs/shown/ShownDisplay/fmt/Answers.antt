use Rattle.std.proofs.Common.{◌<◌, length, arith, rules}
use Rattle.std.proofs.Output.{has_written_append, has_written_of_eq}
use Rattle.parfield.specs.Shown.{shown_byte}
use Rattle.parfield.proofs.ShownLaws.{flat_map-take_more}
use Rattle.parfield.proofs.shown.ShownDisplay.fmt.Goals as goal

pub loop-byte-preserved : goal.loop-byte-preserved
loop-byte-preserved g c = λ plain.
    let more : c.loop-byte.byte-index < length c.args.self.now.0.now = omega arith in
    has_written_of_eq _ _ _ _ _ (flat_map-take_more shown_byte c.args.self.now.0.now c.loop-byte.byte-index more)
    (has_written_append _ _ _ _ _ _ (c.loop-byte.invariant plain) (search rules))
