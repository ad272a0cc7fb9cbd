use Rattle.std.proofs.Common.{◌≡◌, ◌||◌, ◌≤◌, ℕ, Bool, true, false, length, ap, sym, ◌∙◌, inl, inr, arith, Option}
use Rattle.std.specs.Option.{option_map_or}
use Rattle.std.proofs.lemmas.Bool.{cases_lt}
use Rattle.std.proofs.lemmas.List.{get_or_past}
use Rattle.std.proofs.lemmas.Option.{slice_get_past}
use Rattle.parset.specs.declared.recovery_set.SetSlice.{SetSlice}
use Rattle.parwindow.specs.Index.{SliceSet, slice_passes}
use Rattle.parfind.specs.Rounds.{leaves_out}
use Rattle.parfind.proofs.surveys.rounds.left_out.Goals as goal

none_past : (set : SliceSet) (test : SetSlice → Bool) (n : ℕ) → length set.slices ≤ n → slice_passes set.slices test n ≡ false
none_past set test n past = ap (λ (s : Option SetSlice). option_map_or test s false) (slice_get_past set.slices n past)

leaves_none : (set : SliceSet) (short : Bool) (n : ℕ) → length set.slices ≤ n → leaves_out set short n ≡ false
leaves_none set true n past = none_past set _ n past
leaves_none set false n past = none_past set _ n past

pub returns-clause-lost : goal.returns-clause-lost
returns-clause-lost c = λ n. elim (cases_lt n c.loop-n.n) [
  | inl less ↦ c.loop-n.invariant.lost n less
  | inr past ↦
      let all : length c.args.index.now.slices ≤ n = omega (arith, c.slices-n-end.ensures.slices) in
      get_or_past c.loop-n.lost.items n false (omega (arith, c.loop-n.invariant.each))
      ∙ sym (ap (λ b. b || leaves_out c.args.index.now c.args.short n) (get_or_past c.args.found.now n false (omega (arith, c.requires)))
      ∙ leaves_none c.args.index.now c.args.short n all)
]
