use Rattle.std.proofs.Common.{◌<◌, arith, length, replicate, sym, ◌∙◌, Option, None}
use Rattle.std.proofs.lemmas.List.{ext_get_or, length-replicate, get_or-replicate}
use Rattle.parfield.specs.declared.hash16.Hash16.{Hash16}
use Rattle.parfind.proofs.tracks.digests.Digests.forget.Goals as goal

pub returns : goal.returns
returns c =
    let n = length c.args.self.now.kept.items in
    let room = c.loop-k.invariant.room in
    let many = length-replicate {A = Option Hash16} n None in
    ext_get_or None c.loop-k.self.kept.items (replicate {A = Option Hash16} n None) (room ∙ sym many)
    (λ i less.
    let within : i < n = omega arith in
    c.loop-k.invariant.none i (omega arith) ∙ sym (get_or-replicate n i None None within))
