-- All lengths at which a window is compared: each slice with known checksums has one of them as its
-- compared length.
use Rattle.std.proofs.Common.{◌≡◌, ℕ, ◌+◌, ◌-◌, ◌<◌, ◌≤◌, Bool, true, false, ◌||◌, ◌&&◌, ◌==◌, nat_le, eqb, eq-eqb, List, [], ◌∷◌, ◌++◌, length, take, get_or, slice_get, slice_index, refl, sym, ap, ◌∙◌, arith, inl, inr, Option, Some, None, length-append}
use Rattle.std.specs.Prelude.{Contains, is_some, min, IfSome}
use Rattle.std.specs.List.{list_any, range_with_len}
use Rattle.std.specs.Option.{option_map_or}
use Rattle.std.proofs.lemmas.Bool.{and_parts, and_from, cases_lt, eqb-true, or_cases, or_left, or_right}
use Rattle.std.proofs.lemmas.List.{get_or_append_left, get_or-append_right}
use Rattle.std.proofs.lemmas.List.Elements.{All-contains, Contains-append_left, Contains-append_right}
use Rattle.std.proofs.lemmas.List.Folds.{Any-from_list_any, list_any-from_Any, list_any_more}
use Rattle.std.proofs.lemmas.Map.Keys.{sorted_from_strictly_increasing, below_from_sorted}
use Rattle.std.proofs.lemmas.Option.{slice_get_within, get_or_from_slice_get}
use Rattle.std.specs.Str.{bytes_eq}
use Rattle.parfield.specs.declared.hash16.Hash16.{Hash16}
use Rattle.parset.specs.declared.recovery_set.SetSlice.{SetSlice}
use Rattle.parwindow.specs.Index.{SliceSet, IsSliceSet, slice_passes, has_own, has_known_sums, has_sums, sums_of, tails_of}
use Rattle.parwindow.specs.Least.{IsLeastFrom}
use Rattle.parwindow.specs.Window.{zero_filled}
use Rattle.parwindow.proofs.slice_laws.TailLengthsLaws.{tails_fit}
use Rattle.parwindow.proofs.slice_laws.KnownSumsLaws.{same_bools}
use Rattle.parfind.specs.Fitting.{is_fitting_match, is_fitting_compared, is_fitting_of}
use Rattle.parfind.specs.KeptDigests.{lesser_of}
use Rattle.parfind.specs.Sought.{Sought, sought_of, compared_length, compared_lengths, compared_window, shorter_lengths, HasFewTails}
use Rattle.parfind.specs.declared.tracks.mode.Mode.{Mode}
use Rattle.parfind.specs.declared.tracks.mode.Mode.TheVariants.{Plain, Tails}
use Rattle.parfind.proofs.place_laws.FittingLaws.{passing, passing_has}
use Rattle.parfind.proofs.track_laws.ComparedLaws.{least_agree}
use Rattle.parfind.proofs.place_laws.ItemLaws.{Has-range, Has-filter, Contains-from}

-- an optional value that passes a test is there
pub known_some : {A : Type 0} (test : A → Bool) (known : Option A) → option_map_or test known false ≡ true → is_some known ≡ true
known_some test None h = cc
known_some test (Some x) h = refl

-- a slice has at least one byte of its file, and at most as many as the slice size
pub own_within : (set : SliceSet) → IsSliceSet set → (n : ℕ) (slice : SetSlice) → slice_get set.slices n ≡ Some slice
    → (0 < slice.length) × (slice.length ≤ set.slice_size)
own_within set good n slice at =
    All-contains (λ s. (0 < s.length) × (s.length ≤ set.slice_size)) set.slices slice good.own
    (n, slice_get_within set.slices n slice at, get_or_from_slice_get set.slices n slice slice at)

-- the unpadded length of a short slice with known checksums is one of the shorter lengths
pub tail_there : (set : SliceSet) (n : ℕ) (slice : SetSlice) → slice_get set.slices n ≡ Some slice → has_known_sums slice ≡ true
    → 0 < slice.length → slice.length < set.slice_size → Contains (tails_of set) slice.length
tail_there set n slice at known some short =
    let p : ℕ → Bool = λ k. list_any (has_own k has_known_sums) set.slices in
    let passes : p slice.length ≡ true =
    passing_has (has_own slice.length has_known_sums) set.slices n slice at
    (and_from (eqb slice.length slice.length) (has_known_sums slice) (eq-eqb slice.length slice.length refl) known) in
    Contains-from (tails_of set) slice.length
    (Has-filter p (range_with_len 1 (set.slice_size - 1)) slice.length
    (Has-range 1 (set.slice_size - 1) slice.length (omega arith) (omega arith)) passes)

-- the compared length of each slice with known checksums is one of the lengths
pub compared_there : (set : SliceSet) (mode : Mode) → IsSliceSet set → (n : ℕ) (slice : SetSlice) → slice_get set.slices n ≡ Some slice
    → has_known_sums slice ≡ true → Contains (compared_lengths (sought_of set mode)) (compared_length mode set.slice_size slice)
compared_there set Plain good n slice at known = (0, omega arith, refl)
compared_there set Tails good n slice at known =
    let own = own_within set good n slice at in
    elim (cases_lt slice.length set.slice_size) [
      | inl short ↦
          Contains-append_left (tails_of set) (set.slice_size ∷ []) slice.length (tail_there set n slice at known own.0 short)
      | inr whole ↦
          Contains-append_right (tails_of set) (set.slice_size ∷ []) slice.length (0, omega arith, omega (arith, own.1))
    ]

-- there are at most 257 compared lengths, if at most 256 of them are shorter
pub few_compared : (sought : Sought) → HasFewTails sought → length (compared_lengths sought) ≤ 257
few_compared sought few = omega (arith, few, length-append (shorter_lengths sought.mode sought.set) (sought.set.slice_size ∷ []))

-- the compared lengths rise
pub compared_rise : (set : SliceSet) (mode : Mode) (i j : ℕ) → i < j → j < length (compared_lengths (sought_of set mode))
    → slice_index (compared_lengths (sought_of set mode)) i < slice_index (compared_lengths (sought_of set mode)) j
compared_rise set Plain i j less within = absurd (omega arith)
compared_rise set Tails i j less within =
    let tails : List ℕ = tails_of set in
    let last : List ℕ = set.slice_size ∷ [] in
    let fit = tails_fit set in
    let count : length (tails ++ last) ≡ length tails + 1 = length-append tails last in
    let first : get_or (tails ++ last) i 0 ≡ get_or tails i 0 = get_or_append_left tails last 0 i (omega arith) in
    elim (cases_lt j (length tails)) [
      | inl below ↦
          let second : get_or (tails ++ last) j 0 ≡ get_or tails j 0 = get_or_append_left tails last 0 j below in
          rw (first, second) (below_from_sorted tails i j 0 (sorted_from_strictly_increasing tails fit.rising) less below)
      | inr at ↦
          let second : get_or (tails ++ last) j 0 ≡ get_or last (j - length tails) 0 =
          get_or-append_right tails last (length tails) j 0 refl at in
          let none : j - length tails ≡ 0 = omega arith in
          let size : get_or (tails ++ last) j 0 ≡ set.slice_size = second ∙ ap (λ k. get_or last k 0) none in
          rw (first, size) (fit.within i 0 (omega arith)).1
    ]

-- whether slice n is seen at one of these lengths: that is its compared length, and it has the
-- checksums of these bytes and fits
abbrev pub seen_by : SliceSet → Mode → List ℕ → ℕ → List ℕ → ℕ → Bool
seen_by set mode window left owns n = list_any (λ own. slice_passes set.slices (is_fitting_of (sought_of set mode) window left own) n) owns

-- at its compared length, a slice is seen exactly if it has the checksums of the window's compared
-- bytes and fits
module _ (set : SliceSet) (mode : Mode) (window : List ℕ) (left : ℕ) (full : length window ≡ set.slice_size) where
  fits_own : (slice : SetSlice) (own : ℕ) → compared_length mode set.slice_size slice ≡ own
      → is_fitting_compared mode window left slice ≡ is_fitting_match (sums_of (zero_filled (length window) own window)) left slice
  fits_own slice own is =
      ap (λ (size : ℕ). is_fitting_match (sums_of (zero_filled (length window) (compared_length mode size slice) window)) left slice) full
      ∙ ap (λ (k : ℕ). is_fitting_match (sums_of (zero_filled (length window) k window)) left slice) is

  of_look : (slice : SetSlice) → is_fitting_compared mode window left slice ≡ true
      → is_fitting_of (sought_of set mode) window left (compared_length mode set.slice_size slice) slice ≡ true
  of_look slice fits =
      let own : ℕ = compared_length mode set.slice_size slice in
      and_from (eqb own own) (is_fitting_match (sums_of (zero_filled (length window) own window)) left slice) (eq-eqb own own refl)
      (sym (fits_own slice own refl) ∙ fits)

  look_of : (slice : SetSlice) (own : ℕ) → is_fitting_of (sought_of set mode) window left own slice ≡ true
      → is_fitting_compared mode window left slice ≡ true
  look_of slice own fits =
      let parts = and_parts (eqb (compared_length mode set.slice_size slice) own)
      (is_fitting_match (sums_of (zero_filled (length window) own window)) left slice) fits in
      fits_own slice own (eqb-true (compared_length mode set.slice_size slice) own parts.0) ∙ parts.1

  fit_known : (slice : SetSlice) → is_fitting_compared mode window left slice ≡ true → has_known_sums slice ≡ true
  fit_known slice fits =
      let sums : Hash16 × ℕ = sums_of (compared_window mode window slice) in
      known_some (λ known. known.1 == sums.1 && bytes_eq known.0.0 sums.0.0) slice.sums
      (and_parts (nat_le slice.length left) (has_sums sums slice) fits).1

  -- the slices that are seen at one of all lengths are those that match the window and fit
  pub seen_by-all : IsSliceSet set → (n : ℕ)
      → seen_by set mode window left (compared_lengths (sought_of set mode)) n ≡ slice_passes set.slices (is_fitting_compared mode window left) n
  seen_by-all good n =
      same_bools (seen_by set mode window left (compared_lengths (sought_of set mode)) n) (slice_passes set.slices (is_fitting_compared mode window left) n) (
        λ h.
            let some = Any-from_list_any (λ own. slice_passes set.slices (is_fitting_of (sought_of set mode) window left own) n)
            (compared_lengths (sought_of set mode)) h in
            let slice = passing (is_fitting_of (sought_of set mode) window left some.1) (slice_get set.slices n) some.4 in
            ap (λ (o : Option SetSlice). option_map_or (is_fitting_compared mode window left) o false) slice.1 ∙ look_of slice.0 some.1 slice.2,
        λ h.
            let slice = passing (is_fitting_compared mode window left) (slice_get set.slices n) h in
            let own : ℕ = compared_length mode set.slice_size slice.0 in
            let there = compared_there set mode good n slice.0 slice.1 (fit_known slice.0 slice.2) in
            list_any-from_Any (λ k. slice_passes set.slices (is_fitting_of (sought_of set mode) window left k) n)
            (compared_lengths (sought_of set mode)) (
              there.0,
              own,
              there.1,
              there.2,
              ap (λ (o : Option SetSlice). option_map_or (is_fitting_of (sought_of set mode) window left own) o false) slice.1 ∙ of_look slice.0 slice.2,
            ),
      )

-- if one number is the least that passes a test, and another the least that passes a second test, the
-- lesser of them is the least that passes at least one of both tests
lesser_least : (p q : ℕ → Bool) (first : ℕ) (a b : Option ℕ) → IsLeastFrom p first a → IsLeastFrom q first b
    → IsLeastFrom (λ n. p n || q n) first (lesser_of a b)
lesser_least p q first None None none never = λ k from h. elim (or_cases (p k) (q k) h) [
  | inl e ↦ none k from e
  | inr e ↦ never k from e
]
lesser_least p q first None (Some n) none least = record {
  at_or_above = least.at_or_above;
  passes = or_right (p n) (q n) least.passes;
  least = λ k from below h. elim (or_cases (p k) (q k) h) [
    | inl e ↦ none k from e
    | inr e ↦ least.least k from below e
  ];
}
lesser_least p q first (Some n) None least none = record {
  at_or_above = least.at_or_above;
  passes = or_left (p n) (q n) least.passes;
  least = λ k from below h. elim (or_cases (p k) (q k) h) [
    | inl e ↦ least.least k from below e
    | inr e ↦ none k from e
  ];
}
lesser_least p q first (Some m) (Some n) one other = record {
  at_or_above = omega (arith, one.at_or_above, other.at_or_above);
  passes = elim (cases_lt n m) [
    | inl less ↦
        let is : min m n ≡ n = omega arith in
        rw is (or_right (p n) (q n) other.passes)
    | inr more ↦
        let is : min m n ≡ m = omega arith in
        rw is (or_left (p m) (q m) one.passes)
  ];
  least = λ k from below h. elim (or_cases (p k) (q k) h) [
    | inl e ↦ one.least k from (omega arith) e
    | inr e ↦ other.least k from (omega arith) e
  ];
}

-- the slices that are seen at the first k lengths or at the next one are seen at the first k + 1
module _ (set : SliceSet) (mode : Mode) (window : List ℕ) (left k : ℕ) (below : k < length (compared_lengths (sought_of set mode))) where
  pub seen_by-more : (n : ℕ)
      → (seen_by set mode window left (take k (compared_lengths (sought_of set mode))) n
      || slice_passes set.slices (is_fitting_of (sought_of set mode) window left (slice_index (compared_lengths (sought_of set mode)) k)) n)
      ≡ seen_by set mode window left (take (k + 1) (compared_lengths (sought_of set mode))) n
  seen_by-more n =
      sym (list_any_more (λ own. slice_passes set.slices (is_fitting_of (sought_of set mode) window left own) n)
      (compared_lengths (sought_of set mode)) k 0 below)

  -- so the first slice that is seen at them is the lesser of both
  pub first_more : (first : ℕ) (least found : Option ℕ)
      → IsLeastFrom (seen_by set mode window left (take k (compared_lengths (sought_of set mode)))) first least
      → IsLeastFrom (slice_passes set.slices (is_fitting_of (sought_of set mode) window left (slice_index (compared_lengths (sought_of set mode)) k))) first found
      → IsLeastFrom (seen_by set mode window left (take (k + 1) (compared_lengths (sought_of set mode)))) first (lesser_of least found)
  first_more first least found so_far next =
      let p : ℕ → Bool = seen_by set mode window left (take k (compared_lengths (sought_of set mode))) in
      let q : ℕ → Bool = slice_passes set.slices (is_fitting_of (sought_of set mode) window left (slice_index (compared_lengths (sought_of set mode)) k)) in
      least_agree (λ n. p n || q n) (seen_by set mode window left (take (k + 1) (compared_lengths (sought_of set mode))))
      seen_by-more first (lesser_of least found) (lesser_least p q first least found so_far next)

pub lesser_there : (a b : Option ℕ) (count : ℕ) → IfSome a (λ n. n < count) → IfSome b (λ n. n < count) → IfSome (lesser_of a b) (λ n. n < count)
lesser_there None b count one other = other
lesser_there (Some m) None count one other = one
lesser_there (Some m) (Some n) count one other = omega (arith, one, other)
