-- The least unpadded length of the slices that aren't found and have checksums, taken over one
-- slice after another.
use Rattle.std.proofs.Common.{◌≡◌, ℕ, zero, suc, ◌+◌, ◌-◌, ◌^◌, ◌<◌, ◌≤◌, Bool, true, false, ◌||◌, nat_le, is_some, List, [], ◌∷◌, length, take, min, get_or, slice_get, refl, sym, ap, ◌∙◌, arith, inl, inr, Option, None, Some}
use Rattle.std.specs.List.{list_any}
use Rattle.std.specs.Option.{IsSomeAnd, option_map_or}
use Rattle.std.proofs.lemmas.Bool.{cases_lt, false_from_ne_true, le-leb, leb-true}
use Rattle.std.proofs.lemmas.List.{take_all}
use Rattle.std.proofs.lemmas.List.Folds.{list_any_more}
use Rattle.std.proofs.lemmas.Option.{slice_get-get_or}
use Rattle.std.proofs.Math.Bool.{or-false}
use Rattle.parset.specs.declared.recovery_set.SetSlice.{SetSlice}
use Rattle.parwindow.specs.Index.{has_fit_of, has_known_sums, slice_passes}
use Rattle.parwindow.specs.Missing.{found_at}
use Rattle.parfind.proofs.survey_laws.MissingSetLaws.{as_many, missing_of, same_slice}

-- `least` is the least such length of the first n slices, or the greatest number if there is none
pub record LeastSoFar (slices : List SetSlice) (found : List Bool) (n least : ℕ) : Type 0 where
  pub some : 0 < least
  pub fits : (left : ℕ) → left < 2 ^ 64 - 1 → list_any (has_fit_of left) (take n (missing_of slices found)) ≡ nat_le least left

lost_fits : (slices : List SetSlice) (found : List Bool) (n left : ℕ) → found_at found n ≡ true
    → option_map_or (has_fit_of left) (slice_get (missing_of slices found) n) false ≡ false
lost_fits [] found n left is = refl
lost_fits (x ∷ xs) [] n left is = cc
lost_fits (x ∷ xs) (true ∷ bs) zero left is = refl
lost_fits (x ∷ xs) (false ∷ bs) zero left is = cc
lost_fits (x ∷ xs) (b ∷ bs) (suc n) left is = lost_fits xs bs n left is

no_sums : {A : Type 0} (fits : Bool) (sums : Option A) → is_some sums ≡ false → option_map_or (λ known. fits) sums false ≡ false
no_sums fits None e = refl
no_sums fits (Some known) e = cc

unknown_fits : (slice : Option SetSlice) (left : ℕ) → option_map_or has_known_sums slice false ≡ false → option_map_or (has_fit_of left) slice false ≡ false
unknown_fits None left lacks = refl
unknown_fits (Some slice) left lacks = no_sums (nat_le slice.length left) slice.sums lacks

pub some_sums : {A : Type 0} (fits : Bool) (sums : Option A) → is_some sums ≡ true → option_map_or (λ known. fits) sums false ≡ fits
some_sums fits None e = cc
some_sums fits (Some known) e = refl

known_fits : (slice : Option SetSlice) (own left : ℕ) → option_map_or has_known_sums slice false ≡ true → IsSomeAnd slice (λ s. own ≡ s.length)
    → option_map_or (has_fit_of left) slice false ≡ nat_le own left
known_fits None own left knows is = cc
known_fits (Some slice) own left knows is = some_sums (nat_le slice.length left) slice.sums knows ∙ ap (λ (n : ℕ). nat_le n left) (sym is)

min_fits : (least own left : ℕ) → (nat_le least left || nat_le own left) ≡ nat_le (min least own) left
min_fits least own left = elim (cases_lt left least) [
  | inl less ↦ elim (cases_lt left own) [
    | inl also ↦ rw (above least left less, above own left also, above (min least own) left (omega arith)) refl
    | inr fits ↦ rw (above least left less, le-leb own left fits, le-leb (min least own) left (omega arith)) refl
  ]
  | inr fits ↦ rw (le-leb least left fits, le-leb (min least own) left (omega arith)) refl
] where
  above : (a b : ℕ) → b < a → nat_le a b ≡ false
  above a b less = false_from_ne_true (nat_le a b) (λ h. let most : a ≤ b = leb-true a b h in absurd (omega arith))

module _ (slices : List SetSlice) (found : List Bool) (each : length found ≡ length slices) where
  pub least_none : LeastSoFar slices found 0 18446744073709551615
  least_none = record {
    some = omega arith;
    fits = λ left small. sym (false_from_ne_true (nat_le 18446744073709551615 left) (λ h.
        let most : 18446744073709551615 ≤ left = leb-true 18446744073709551615 left h in absurd (omega arith)));
  }

  module _ (n least : ℕ) (within : n < length slices) (so_far : LeastSoFar slices found n least) where
    one_more : (left : ℕ) → left < 2 ^ 64 - 1 → list_any (has_fit_of left) (take (n + 1) (missing_of slices found))
        ≡ (nat_le least left || option_map_or (has_fit_of left) (slice_get (missing_of slices found) n) false)
    one_more left small =
        let d : SetSlice = record { id = record { 0 = [] }; number = 0; length = 0; sums = None } in
        let there : n < length (missing_of slices found) = omega (arith, as_many slices found each) in
        list_any_more (has_fit_of left) (missing_of slices found) n d there
        ∙ ap (λ b. b || has_fit_of left (get_or (missing_of slices found) n d)) (so_far.fits left small)
        ∙ ap (λ (s : Option SetSlice). nat_le least left || option_map_or (has_fit_of left) s false) (sym (slice_get-get_or (missing_of slices found) n d there))

    none_more : ((left : ℕ) → option_map_or (has_fit_of left) (slice_get (missing_of slices found) n) false ≡ false) → LeastSoFar slices found (n + 1) least
    none_more none = record {
      some = so_far.some;
      fits = λ left small. one_more left small ∙ ap (λ b. nat_le least left || b) (none left) ∙ or-false (nat_le least left);
    }

    -- it stays if slice n is found
    pub least_found : found_at found n ≡ true → LeastSoFar slices found (n + 1) least
    least_found is = none_more (λ left. lost_fits slices found n left is)

    module _ (open_ : found_at found n ≡ false) where
      kept : (left : ℕ) → option_map_or (has_fit_of left) (slice_get (missing_of slices found) n) false ≡ option_map_or (has_fit_of left) (slice_get slices n) false
      kept left = ap (λ (s : Option SetSlice). option_map_or (has_fit_of left) s false) (same_slice slices found n each open_)

      -- it stays if slice n has no checksums
      pub least_unknown : slice_passes slices has_known_sums n ≡ false → LeastSoFar slices found (n + 1) least
      least_unknown lacks = none_more (λ left. kept left ∙ unknown_fits (slice_get slices n) left lacks)

      -- else it becomes the lesser of it and the length of slice n
      pub least_more : (own : ℕ) → 0 < own → slice_passes slices has_known_sums n ≡ true → IsSomeAnd (slice_get slices n) (λ s. own ≡ s.length)
          → LeastSoFar slices found (n + 1) (min least own)
      least_more own some knows is = record {
        some = omega (arith, so_far.some);
        fits = λ left small. one_more left small
            ∙ ap (λ b. nat_le least left || b) (kept left ∙ known_fits (slice_get slices n) own left knows is)
            ∙ min_fits least own left;
      }

  pub least_all : (n least : ℕ) → length slices ≤ n → LeastSoFar slices found n least
      → (left : ℕ) → left < 2 ^ 64 - 1 → list_any (has_fit_of left) (missing_of slices found) ≡ nat_le least left
  least_all n least all so_far left small =
      ap (list_any (has_fit_of left)) (sym (take_all n (missing_of slices found) (omega (arith, as_many slices found each)))) ∙ so_far.fits left small
