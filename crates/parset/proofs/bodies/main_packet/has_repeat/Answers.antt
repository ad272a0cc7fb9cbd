use Rattle.std.proofs.Common.{◌≡◌, ◌∙◌, ap, rules, nat_cmp, Some}
use Rattle.std.specs.List.Sorted.{IsPermutation}
use Rattle.std.specs.List.{IsAllAdjacentAnswer}
use Rattle.std.specs.Ordering.{is_lt, is_some_and}
use Rattle.std.specs.Cmp.Lexicographic.{slice_partial_cmp, lists_agrees}
use Rattle.std.proofs.lemmas.List.Sorted.{answers_always}
use Rattle.parset.proofs.RepeatLaws.{order, has_repeat-sorted}
use Rattle.parset.proofs.bodies.main_packet.has_repeat.Goals as goal

pub returns : goal.returns
returns c =
    let asked = c.is_sorted_by.ensures.cases (λ x y. is_lt (order x y)) (answers_always _ _ _ (λ f a r g h.
    let e : r ≡ is_some_and is_lt (slice_partial_cmp (λ x y. Some (nat_cmp x y)) a.0.now a.1.0.now) = search rules in
    e ∙ ap (is_some_and is_lt) (lists_agrees (λ x y. λ i. Some (nat_cmp x y)) a.0.now a.1.0.now))) in
    let rises : IsAllAdjacentAnswer (λ x y b. b ≡ is_lt (order x y)) c.sort_unstable.new.self.items c.is_sorted_by.result = rw (← c.deref.ensures.value) asked in
    let moved : IsPermutation c.args.ids.now c.sort_unstable.new.self.items = rw (← c.in_ok-sorted.ensures.items) c.sort_unstable.ensures.permutation in
    has_repeat-sorted c.args.ids.now c.sort_unstable.new.self.items c.is_sorted_by.result moved c.sort_unstable.ensures.sorted rises
