use Rattle.std.proofs.Common.{◌∙◌, ◌<◌, [], get_or, refl, sym, length, arith}
use Rattle.parwindow.proofs.tail_laws.PushTailsLaws.{lengths_more, moved_more, register_of-none}
use Rattle.parwindow.proofs.tails.tail_list.clear_tails.Goals as goal

pub loop-k-preserved : goal.loop-k-preserved
loop-k-preserved c =
    let tails = c.loop-k.tails in
    let k = c.loop-k.k in
    let e = c.index-tails-k.result in
    let below : k < length tails = omega arith in (
      lengths_more tails k _ e below refl ∙ c.loop-k.invariant.0,
      λ size content each. moved_more tails k _ e below refl size content [] refl
          (sym (register_of-none (get_or tails k e).length))
          (c.loop-k.invariant.1 size content each),
    )

pub returns-clause-each : goal.returns-clause-each
returns-clause-each c = λ size content each k d below.
    (c.loop-k.invariant.1 size content each).moved k d (omega (arith, below))
