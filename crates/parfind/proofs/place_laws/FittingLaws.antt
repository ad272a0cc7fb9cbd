-- Slices that have the checksums of a window and fit into what is left of its file.
use Rattle.std.proofs.Common.{◌≡◌, ℕ, zero, suc, true, List, [], ◌∷◌, refl, ap, ◌∙◌, slice_get, Bool, false, ◌&&◌, ◌==◌, nat_le, Option, Some, None}
use Rattle.std.proofs.lemmas.Bool.{and_parts, and_from, or_left, or_right}
use Rattle.std.specs.List.{list_any}
use Rattle.std.specs.Str.{bytes_eq}
use Rattle.std.specs.Option.{option_map_or}
use Rattle.parfield.specs.declared.hash16.Hash16.{Hash16}
use Rattle.parwindow.specs.Index.{SliceSet, slice_passes, has_sums, has_known_crc}
use Rattle.parwindow.specs.Missing.{has_fit_crc_of, set_has_fit_crc}
use Rattle.parfind.specs.Fitting.{is_fitting_match}

-- if a test of an optional value is passed, there is a value that passes it
pub passing : {A : Type 0} (test : A → Bool) (found : Option A) → option_map_or test found false ≡ true
    → (x : A) × (found ≡ Some x) × (test x ≡ true)
passing test None h = cc
passing test (Some x) h = (x, refl, h)

-- if an element of a list passes a test, some element of the list passes it
pub passing_has : {A : Type 0} (test : A → Bool) (xs : List A) (n : ℕ) (x : A) → slice_get xs n ≡ Some x → test x ≡ true → list_any test xs ≡ true
passing_has test [] n x at h = cc
passing_has test (y ∷ ys) zero x at h = let e : y ≡ x = cc in or_left (test y) (list_any test ys) (ap test e ∙ h)
passing_has test (y ∷ ys) (suc n) x at h = or_right (test y) (list_any test ys) (passing_has test ys n x at h)

-- if both checksums are those that are known, the CRC-32 is
pub has_both : (sums : Hash16 × ℕ) (known : Option (Hash16 × ℕ)) → option_map_or (λ k. k.1 == sums.1 && bytes_eq k.0.0 sums.0.0) known false ≡ true
    → option_map_or (λ k. k.1 == sums.1) known false ≡ true
has_both sums None h = h
has_both sums (Some k) h = (and_parts _ _ h).0

-- a slice that has the window's checksums and fits is one that has its CRC-32 and fits
module _ (set : SliceSet) (sums : Hash16 × ℕ) (left n : ℕ) (fits : slice_passes set.slices (is_fitting_match sums left) n ≡ true) where
  pub fit_has_crc : set_has_fit_crc set sums.1 left ≡ true
  fit_has_crc =
      let slice = passing (is_fitting_match sums left) (slice_get set.slices n) fits in
      let parts = and_parts (nat_le slice.0.length left) (has_sums sums slice.0) slice.2 in
      passing_has (has_fit_crc_of sums.1 left) set.slices n slice.0 slice.1
      (and_from (has_known_crc sums.1 slice.0) (nat_le slice.0.length left) (has_both sums slice.0.sums parts.1) parts.0)

  pub fit_passes : slice_passes set.slices (has_fit_crc_of sums.1 left) n ≡ true
  fit_passes =
      let slice = passing (is_fitting_match sums left) (slice_get set.slices n) fits in
      let parts = and_parts (nat_le slice.0.length left) (has_sums sums slice.0) slice.2 in
      rw slice.1 (and_from (has_known_crc sums.1 slice.0) (nat_le slice.0.length left) (has_both sums slice.0.sums parts.1) parts.0)
