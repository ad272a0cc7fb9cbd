use Rattle.std.proofs.lemmas.Grind.{common_steps}
use Rattle.std.proofs.Common.{◌∙◌, ◌&&◌, ◌==◌, true, false, length, ap, sym, arith}
use Rattle.std.specs.BTreeMap.{get}
use Rattle.std.specs.Option.{option_or}
use Rattle.std.specs.Str.{bytes_eq}
use Rattle.parfield.specs.HashOrder.{id_cmp}
use Rattle.parsalvage.specs.declared.kept.Kept.{Kept}
use Rattle.parset.specs.Choosing.{only_if}
use Rattle.parset.specs.PacketFields.{usable_checksums}
use Rattle.parset.specs.declared.bodies.checksums.Ifsc.{Ifsc}
use Rattle.parset.proofs.ChoosingLaws.{counted, first_found_more, first_found_same}
use Rattle.parset.proofs.choosing.checksums.Goals as goal
use Rattle.parset.proofs.choosing.checksums.Goals.{in-Some+then-is_counted+in_ok-put_first, in-Some+else-is_counted, in_default}

pub loop-kept-preserved : goal.loop-kept-preserved
loop-kept-preserved c q count known =
    let own = c.args.own.now in let i = c.loop-kept.kept-index in let k = c.kept-item.result in
    let counts = get id_cmp c.args.counts.now in
    let passes = λ (s : Ifsc). bytes_eq s.id.0 q.0 && length s.sums == count in
    let find = λ (k : Kept). only_if passes (usable_checksums k.kind k.body) in
    let before = get id_cmp c.loop-kept.found q in
    let so_far = c.loop-kept.invariant q count known in
    elim c.match-branch-2.branch [
      | in-Some+then-is_counted+in_ok-put_first w ↦
          first_found_more find (λ k. k.now) own i k before (get id_cmp c.match-branch-2.found q) c.loop-kept-test.true c.kept-item.is so_far
          (ap (λ m. get id_cmp m q) w.found-is ∙ w.in_ok-put_first.ensures q
          ∙ ap (option_or before) (counted counts w.in-Some.sums q count true known (sym w.is_counted.ensures ∙ w.if-is_counted.true))
          ∙ ap (λ o. option_or before (only_if passes o)) (sym w.in-Some.is ∙ c.in_ok-sums.ensures.found))
      | in-Some+else-is_counted w ↦
          ap (λ m. get id_cmp m q) w.found-is
          ∙ first_found_same find (λ k. k.now) own i k before c.loop-kept-test.true c.kept-item.is so_far
          (counted counts w.in-Some.sums q count false known (sym w.is_counted.ensures ∙ w.if-is_counted.false)
          ∙ ap (only_if passes) (sym w.in-Some.is ∙ c.in_ok-sums.ensures.found))
      | in_default w ↦
          ap (λ m. get id_cmp m q) w.found-is
          ∙ first_found_same find (λ k. k.now) own i k before c.loop-kept-test.true c.kept-item.is so_far
          (ap (only_if passes) (sym w.in_default.is ∙ c.in_ok-sums.ensures.found))
    ]

pub returns : goal.returns
returns c = grind (arith, common_steps)
