use Rattle.std.proofs.Common.{◌*◌, ◌/◌, ◌%◌, ◌^◌, ◌∙◌, ap, arith}
use Rattle.parwindow.specs.Crc32.{crc_steps}
use Rattle.parwindow.proofs.crc_laws.NibbleLaws.{nibble_small}
use Rattle.parwindow.proofs.crc_laws.ZeroRunLaws.{fills_more}
use Rattle.parwindow.proofs.crcs.low_bytes.nibble_words.Goals as goal

pub loop-i-preserved : goal.loop-i-preserved
loop-i-preserved c =
    fills_more (λ k. crc_steps (8 * c.args.run.now.len) (k % 16 * 2 ^ (4 * (k / 16)))) 128
    c.loop-i.words c.loop-i.i _ c.loop-i.invariant.0 (omega arith)
    (c.apply.ensures
    ∙ ap (crc_steps (8 * c.args.run.now.len)) (nibble_small c.loop-i.i (omega arith)))
    c.loop-i.invariant.1
