use Rattle.std.proofs.Common.{◌∙◌, ◌<◌, refl, ap, take, length, arith}
use Rattle.std.proofs.lemmas.List.{get_or_default}
use Rattle.parwindow.specs.Crc32.{register_of}
use Rattle.parwindow.specs.declared.tails.tail.Tail.{Tail}
use Rattle.parwindow.proofs.tail_laws.PushTailsLaws.{lengths_more, moved, moved_more}
use Rattle.parwindow.proofs.tails.tail_list.push_tails.Goals as goal

pub loop-k-preserved : goal.loop-k-preserved
loop-k-preserved c =
    let tails = c.loop-k.tails in
    let k = c.loop-k.k in
    let e = c.index-tails-k-in-loop-k.result in
    let ring = c.args.ring.now in
    let after = moved ring.items ring.capacity c.args.byte in
    let below : k < length tails = omega arith in (
      lengths_more tails k _ e below refl ∙ c.loop-k.invariant.0,
      moved_more tails k _ e below refl ring.capacity ring.items after refl
          (c.pushed-register.ensures ∙ ap (λ (t : Tail). register_of (take t.length after))
          (get_or_default tails k c.index-tails-k.result e below))
          c.loop-k.invariant.1,
    )
