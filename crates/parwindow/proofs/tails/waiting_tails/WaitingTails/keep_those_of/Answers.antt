use Rattle.std.proofs.Common.{◌≡◌, ◌==◌, ℕ, Bool, List, [], ◌∷◌, filter, refl, ap, ◌∙◌, inl, inr, rules}
use Rattle.std.specs.List.{list_any}
use Rattle.std.proofs.lemmas.Bool.{cases_Bool}
use Rattle.std.proofs.lemmas.Fn.{filter_same}
use Rattle.std.proofs.lemmas.List.Elements.{All-filter}
use Rattle.parwindow.specs.Index.{tails_of}
use Rattle.parwindow.specs.Tails.{IsTail, tail_lengths_of}
use Rattle.parwindow.specs.declared.tails.tail.Tail.{Tail}
use Rattle.parwindow.proofs.tails.waiting_tails.WaitingTails.keep_those_of.Goals as goal

-- filtering tails by a test of their lengths filters the lengths
lengths-filter : (test : ℕ → Bool) (tails : List Tail)
    → tail_lengths_of (filter (λ (t : Tail). test t.length) tails) ≡ filter test (tail_lengths_of tails)
lengths-filter test [] = refl
lengths-filter test (t ∷ ts) = elim (cases_Bool (test t.length)) [
  | inl passes ↦ rw (passes, lengths-filter test ts) refl
  | inr fails ↦ rw (fails, lengths-filter test ts) refl
]

pub invariant_of-self : goal.invariant_of-self
invariant_of-self c =
    let test : ℕ → Bool = λ own. list_any (λ tail. tail == own) (tails_of c.args.index.now) in
    let tails = c.self.inside.list.items in
    let is : c.retain.new.self.items ≡ filter (λ (t : Tail). test t.length) tails =
    filter_same _ (λ (t : Tail). test t.length) _ (λ t b f called. search rules) tails c.retain.new.self.items c.retain.ensures.filtered in
    record { tails = rw is (All-filter (λ (t : Tail). test t.length) (IsTail c.self.inside.size []) tails c.self.invariant.tails); running = c.self.invariant.running }

pub returns : goal.returns
returns c =
    let test : ℕ → Bool = λ own. list_any (λ tail. tail == own) (tails_of c.args.index.now) in
    let tails = c.self.inside.list.items in
    let is : c.retain.new.self.items ≡ filter (λ (t : Tail). test t.length) tails =
    filter_same _ (λ (t : Tail). test t.length) _ (λ t b f called. search rules) tails c.retain.new.self.items c.retain.ensures.filtered in
    let lengths : tail_lengths_of c.retain.new.self.items ≡ filter test (tail_lengths_of tails) = ap tail_lengths_of is ∙ lengths-filter test tails in
    rw (← c.self.view_is) (ap (λ (ls : List ℕ). record { size = c.self.inside.size; lengths = ls }) lengths)
