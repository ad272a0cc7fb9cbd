use Rattle.std.proofs.lemmas.Grind.{common_steps}
use Rattle.std.proofs.Common.{◌∙◌, ap, sym, arith}
use Rattle.std.specs.BTreeMap.{get}
use Rattle.std.specs.Option.{option_or}
use Rattle.std.specs.Str.{bytes_eq}
use Rattle.parfield.specs.HashOrder.{id_cmp}
use Rattle.parsalvage.specs.declared.kept.Kept.{Kept}
use Rattle.parset.specs.Choosing.{only_if}
use Rattle.parset.specs.PacketFields.{usable_description}
use Rattle.parset.specs.declared.bodies.description.Desc.{Desc}
use Rattle.parset.proofs.ChoosingLaws.{first_found_more, first_found_same}
use Rattle.parset.proofs.choosing.descriptions.Goals as goal
use Rattle.parset.proofs.choosing.descriptions.Goals.{in-Some+in_ok-put_first, in_default}

pub loop-kept-preserved : goal.loop-kept-preserved
loop-kept-preserved c q =
    let own = c.args.own.now in let i = c.loop-kept.kept-index in let k = c.kept-item.result in
    let passes = λ (d : Desc). bytes_eq d.id.0 q.0 in
    let find = λ (k : Kept). only_if passes (usable_description k.kind k.body) in
    let before = get id_cmp c.loop-kept.found q in
    elim c.match-branch-2.branch [
      | in-Some+in_ok-put_first w ↦
          first_found_more find (λ k. k.now) own i k before (get id_cmp c.match-branch-2.found q)
          c.loop-kept-test.true c.kept-item.is (c.loop-kept.invariant q)
          (ap (λ m. get id_cmp m q) w.found-is ∙ w.in_ok-put_first.ensures q
          ∙ ap (λ o. option_or before (only_if passes o)) (sym w.in-Some.is ∙ c.in_ok-description.ensures.found))
      | in_default w ↦
          ap (λ m. get id_cmp m q) w.found-is
          ∙ first_found_same find (λ k. k.now) own i k before c.loop-kept-test.true c.kept-item.is (c.loop-kept.invariant q)
          (ap (only_if passes) (sym w.in_default.is ∙ c.in_ok-description.ensures.found))
    ]

pub returns : goal.returns
returns c = grind (arith, common_steps)
