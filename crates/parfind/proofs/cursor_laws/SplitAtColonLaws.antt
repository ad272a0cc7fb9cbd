-- How a text is split at its colons, and that a number has none.
use Rattle.std.proofs.Common.{◌≡◌, ℕ, ◌+◌, ◌-◌, ◌^◌, ◌<◌, ◌≤◌, Bool, true, false, cond, inl, inr, List, [], ◌∷◌, length, take, drop, nat_lt, Some, None, refl, sym, ap, ◌∙◌, arith}
use Rattle.std.specs.Char.{is_ascii_digit}
use Rattle.std.specs.Fmt.{decimal}
use Rattle.std.specs.List.{All, list_all, position, position_or_len, slice_split}
use Rattle.std.proofs.lemmas.Bool.{and_parts, cases_Bool, ne_eqb}
use Rattle.std.proofs.lemmas.Bool.Decides.{nat_tests}
use Rattle.std.proofs.lemmas.List.{length-drop, take_all}
use Rattle.std.proofs.lemmas.List.Elements.{All-nil, All-cons}
use Rattle.std.proofs.lemmas.List.Splits.{slice_split_first}
use Rattle.parfind.specs.CursorText.{is_colon}
use Rattle.parfind.proofs.cursor_laws.NumberLaws.{digits-decimal}

some_position : (n len at : ℕ) → cond (nat_lt n len) (Some n) None ≡ Some at → (n < len) × (n ≡ at)
some_position n len at h = grind (arith, nat_tests)

no_position : (n len : ℕ) → cond (nat_lt n len) (Some n) None ≡ None → len ≤ n
no_position n len h = grind (arith, nat_tests)

-- the first colon splits a text into the part before it and the parts after it
pub slice_split-some : (s : List ℕ) (at : ℕ) → position is_colon s ≡ Some at
    → slice_split is_colon s
    ≡ take at s ∷ slice_split is_colon (take (length s - (at + 1)) (drop (at + 1) s))
slice_split-some s at h =
    let p = some_position (position_or_len is_colon s) (length s) at h in
    let all : take (length s - (at + 1)) (drop (at + 1) s) ≡ drop (at + 1) s =
    take_all (length s - (at + 1)) (drop (at + 1) s) (omega (arith, length-drop (at + 1) s)) in
    rw all (rw p.1 at (slice_split_first is_colon s 0 p.0))

slice_split-whole : (s : List ℕ) → length s ≤ position_or_len is_colon s
    → slice_split is_colon s ≡ s ∷ []
slice_split-whole [] h = refl
slice_split-whole (x ∷ xs) h =
    elim (cases_Bool (is_colon x)) [
      | inl colon ↦ absurd (omega (arith, rw colon at h))
      | inr other ↦
          let more = rw other at h in
          rw (other, slice_split-whole xs (omega arith)) refl
    ]

-- a text without a colon is one part
pub slice_split-none : (s : List ℕ) → position is_colon s ≡ None
    → slice_split is_colon s ≡ s ∷ []
slice_split-none s h =
    slice_split-whole s (no_position (position_or_len is_colon s) (length s) h)

-- a text whose bytes pass a test has no colon, if a colon doesn't pass the test
pub no_colon : (test : ℕ → Bool) → test 58 ≡ false → (s : List ℕ) → list_all test s ≡ true
    → All (λ x. is_colon x ≡ false) s
no_colon test not_colon [] h = All-nil (λ x. is_colon x ≡ false)
no_colon test not_colon (x ∷ xs) h =
    let p = and_parts (test x) (list_all test xs) h in
    let other : x ≡ 58 → ⊥ = λ e. (cc (sym p.0 ∙ ap test e ∙ not_colon)) in
    All-cons (λ y. is_colon y ≡ false) x xs (ne_eqb x 58 other) (no_colon test not_colon xs p.1)

pub no_colon-decimal : (n : ℕ) → n < 2 ^ 64 → All (λ x. is_colon x ≡ false) (decimal n)
no_colon-decimal n small = no_colon is_ascii_digit refl (decimal n) (digits-decimal n small)
