-- A window of a file, and the slices that are seen in it.
use Rattle.std.proofs.Common.{IsTrue, subst, ◌≡◌, ℕ, ◌+◌, ◌<◌, ◌≤◌, true, List, length, refl, sym, ◌∙◌, arith, slice_get, Bool, false, nat_le, Option, Some, None}
use Rattle.std.proofs.lemmas.Bool.{and_parts, and_from, le-leb, leb-true, ltb-true, lt-ltb}
use Rattle.std.specs.Option.{option_map_or}
use Rattle.std.proofs.lemmas.List.Elements.{All-get_or}
use Rattle.std.proofs.lemmas.Bool.Decides.{nat_tests}
use Rattle.std.proofs.lemmas.Option.{slice_get_within, get_or_from_slice_get}
use Rattle.parfield.specs.declared.hash16.Hash16.{Hash16}
use Rattle.parset.specs.declared.recovery_set.SetSlice.{SetSlice}
use Rattle.parwindow.specs.Window.{window_at}
use Rattle.parwindow.specs.Crc32.{crc_of}
use Rattle.parwindow.specs.Index.{SliceSet, slice_passes, sums_of, has_known_crc}
use Rattle.parwindow.specs.Missing.{has_fit_crc_of}
use Rattle.parwindow.specs.Least.{IsLeastFrom}
use Rattle.parfind.specs.Fitting.{is_fitting_compared}
use Rattle.parfind.specs.Sought.{Sought, HasNoComparedCrc, compared_window}
use Rattle.parfind.proofs.place_laws.FittingLaws.{passing, has_both}
use Rattle.parfind.specs.Sightings.{is_seen, is_slice_seen}

-- a slice that passes a test exists
pub passes_there : (set : SliceSet) (test : SetSlice → Bool) (n : ℕ) → slice_passes set.slices test n ≡ true → n < length set.slices
passes_there set test n passes =
    let slice = passing test (slice_get set.slices n) passes in slice_get_within set.slices n slice.0 slice.1

-- what follows if slice n is seen at an offset of a file
module _ (sought : Sought) (file : List ℕ) (offset n : ℕ) (seen : is_slice_seen sought file offset n ≡ true) where
  abbrev test : SetSlice → Bool
  test = is_seen sought.mode sought.set.slice_size file offset

  pub seen_inside : offset < length file
  seen_inside = let slice = passing test (slice_get sought.set.slices n) seen in ltb-true _ _ (and_parts _ _ slice.2).0

  pub seen_there : n < length sought.set.slices
  seen_there =
      let slice = passing test (slice_get sought.set.slices n) seen in
      slice_get_within sought.set.slices n slice.0 slice.1

  -- the compared bytes of the window have the CRC-32 of some slice
  pub seen_compared : HasNoComparedCrc sought (window_at sought.set.slice_size file offset) → ⊥
  seen_compared none =
      let slice = passing test (slice_get sought.set.slices n) seen in
      let sums : Hash16 × ℕ = sums_of (compared_window sought.mode (window_at sought.set.slice_size file offset) slice.0) in
      let None : SetSlice → Type 0 = λ s.
      ¬ IsTrue (has_known_crc (crc_of (compared_window sought.mode (window_at sought.set.slice_size file offset) s)) s) in
      let here : None slice.0 =
      subst None (get_or_from_slice_get sought.set.slices n slice.0 slice.0 slice.1)
      (All-get_or None sought.set.slices n slice.0 seen_there none) in
      here (has_both sums slice.0.sums (and_parts _ _ (and_parts _ _ slice.2).1).1)

-- tests that agree on each value agree on an optional value
same_test : {A : Type 0} (p q : A → Bool) → ((x : A) → p x ≡ q x) → (found : Option A)
    → option_map_or p found false ≡ option_map_or q found false
same_test p q same None = refl
same_test p q same (Some x) = same x

least_same : (p q : ℕ → Bool) → ((n : ℕ) → p n ≡ q n) → (first : ℕ) (found : Option ℕ) → IsLeastFrom p first found
    → IsLeastFrom q first found
least_same p q same first None none = λ k from h. none k from (same k ∙ h)
least_same p q same first (Some n) least = record {
  at_or_above = least.at_or_above;
  passes = sym (same n) ∙ least.passes;
  least = λ k from below h. least.least k from below (same k ∙ h);
}

le_sum : (a b left all : ℕ) → b + left ≡ all → nat_le a left ≡ nat_le (b + a) all
le_sum a b left all sum = grind (arith, nat_tests)

-- if a window is that of an offset, and the bytes that are left of the file are known, the slices
-- that match the window and fit are exactly those that are seen at the offset
module _ (sought : Sought) (file : List ℕ) (offset left : ℕ) (window : List ℕ) (inside : offset < length file)
    (all : offset + left ≡ length file) (is : window ≡ window_at sought.set.slice_size file offset) where
  pub fit_seen : (n : ℕ) → slice_passes sought.set.slices (is_fitting_compared sought.mode window left) n ≡ is_slice_seen sought file offset n
  fit_seen n =
      let fit : SetSlice → Bool = is_fitting_compared sought.mode window left in
      let seen : SetSlice → Bool = is_seen sought.mode sought.set.slice_size file offset in
      let same : (slice : SetSlice) → fit slice ≡ seen slice = λ slice.
      rw (lt-ltb offset (length file) inside, is, le_sum slice.length offset left (length file) all) refl in
      same_test fit seen same (slice_get sought.set.slices n)

  pub first_seen : (first : ℕ) (found : Option ℕ)
      → IsLeastFrom (slice_passes sought.set.slices (is_fitting_compared sought.mode window left)) first found
      → IsLeastFrom (is_slice_seen sought file offset) first found
  first_seen first found least =
      least_same (slice_passes sought.set.slices (is_fitting_compared sought.mode window left)) (is_slice_seen sought file offset) fit_seen first found least

-- a slice that fits into fewer bytes fits into more
pub fits_on : (set : SliceSet) (crc less more n : ℕ) → less ≤ more → slice_passes set.slices (has_fit_crc_of crc less) n ≡ true
    → slice_passes set.slices (has_fit_crc_of crc more) n ≡ true
fits_on set crc less more n up fits =
    let slice = passing (has_fit_crc_of crc less) (slice_get set.slices n) fits in
    let parts = and_parts (has_known_crc crc slice.0) (nat_le slice.0.length less) slice.2 in
    let short : slice.0.length ≤ less = leb-true slice.0.length less parts.1 in
    rw slice.1 (and_from (has_known_crc crc slice.0) (nat_le slice.0.length more) parts.0 (le-leb slice.0.length more (omega arith)))
