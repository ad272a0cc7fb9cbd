-- The set in which slices that are found have no checksums: a slice that is seen in it is seen in
-- the whole set, and a slice that isn't found is seen in both alike.
use Rattle.std.proofs.Common.{◌≡◌, ℕ, zero, suc, ◌-◌, ◌≤◌, Bool, true, false, ◌||◌, ◌&&◌, ◌==◌, List, [], ◌∷◌, filter, map, zip, length, refl, sym, ap, ◌∙◌, arith, slice_get, Option, None, inl, inr}
use Rattle.std.specs.List.{list_any, flat_map, range_with_len}
use Rattle.std.specs.Option.{option_map_or}
use Rattle.std.proofs.lemmas.Bool.{cases_Bool, or_cases, or_left, or_right, and_parts, eqb-true}
use Rattle.std.proofs.Math.Bool.{and-false}
use Rattle.parset.specs.declared.recovery_set.SetSlice.{SetSlice}
use Rattle.parwindow.specs.Index.{SliceSet, has_known_sums, has_own, tails_of}
use Rattle.parwindow.specs.Missing.{found_at, missing_set, unless_found}
use Rattle.parfind.specs.declared.cursors.cursor.Cursor.{Cursor}
use Rattle.parfind.specs.declared.cursors.sighting.Sighting.{Sighting}
use Rattle.parfind.specs.declared.tracks.mode.Mode.{Mode}
use Rattle.parfind.specs.declared.tracks.mode.Mode.TheVariants.{Plain, Tails}
use Rattle.parfind.specs.Fetched.{Place}
use Rattle.parfind.specs.Order.{is_before, cursor_of}
use Rattle.parfind.specs.Places.{places_of}
use Rattle.parfind.specs.Sightings.{Scan, content_of, is_seen, is_sighting, sightings_of, triples_of}
use Rattle.parfind.specs.Sought.{HasFewTails, sought_of}
use Rattle.parfind.specs.Steps.{scan_of}
use Rattle.parfind.specs.Surveys.{is_sighted_before}
use Rattle.parfind.proofs.place_laws.ItemLaws.{Has-filter, Has-passed}
use Rattle.parfind.proofs.survey_laws.NotedLaws.{same_truth, any_has, has_any}

filtered_too : {A : Type 0} (test p q : A → Bool) (xs : List A) → ((x : A) → test x ≡ true → p x ≡ q x)
    → list_any test (filter p xs) ≡ true → list_any test (filter q xs) ≡ true
filtered_too test p q xs same h =
    let some = any_has test (filter p xs) h in
    let passed = Has-passed p xs some.0 some.1 in
    has_any test (filter q xs) some.0 (Has-filter q xs some.0 passed.0 (sym (same some.0 some.2) ∙ passed.1)) some.2

-- if two filters agree on each element that passes a test, either both keep such an element or
-- neither does
pub any_filtered : {A : Type 0} (test p q : A → Bool) → ((x : A) → test x ≡ true → p x ≡ q x) → (xs : List A)
    → list_any test (filter p xs) ≡ list_any test (filter q xs)
any_filtered test p q same xs =
    same_truth _ _ (filtered_too test p q xs same) (filtered_too test q p xs (λ x h. sym (same x h)))

-- a stronger filter keeps no more elements
pub filter_less : {A : Type 0} (p q : A → Bool) → ((x : A) → p x ≡ true → q x ≡ true) → (xs : List A)
    → length (filter p xs) ≤ length (filter q xs)
filter_less p q weaker [] = omega arith
filter_less p q weaker (x ∷ xs) = elim (cases_Bool (p x)) [
  | inl h ↦ let k : q x ≡ true = weaker x h in rw (h, k) (omega (arith, filter_less p q weaker xs))
  | inr h ↦ elim (cases_Bool (q x)) [
    | inl k ↦ rw (h, k) (omega (arith, filter_less p q weaker xs))
    | inr k ↦ rw (h, k) (filter_less p q weaker xs)
  ]
]

-- the slices, without the checksums of those that are found
abbrev pub missing_of : List SetSlice → List Bool → List SetSlice
missing_of slices found = map unless_found (zip slices found)

pub as_many : (slices : List SetSlice) (found : List Bool) → length found ≡ length slices → length (missing_of slices found) ≡ length slices
as_many [] found each = refl
as_many (x ∷ xs) [] each = absurd (omega arith)
as_many (x ∷ xs) (b ∷ bs) each = ap suc (as_many xs bs (omega arith))

-- a slice that isn't found stays as it is
pub same_slice : (slices : List SetSlice) (found : List Bool) (n : ℕ) → length found ≡ length slices → found_at found n ≡ false
    → slice_get (missing_of slices found) n ≡ slice_get slices n
same_slice [] found n each none = refl
same_slice (x ∷ xs) [] n each none = absurd (omega arith)
same_slice (x ∷ xs) (true ∷ bs) zero each none = cc
same_slice (x ∷ xs) (false ∷ bs) zero each none = refl
same_slice (x ∷ xs) (b ∷ bs) (suc n) each none = same_slice xs bs n (omega arith) none

-- if no slice is found, none changes
pub none_lost : (slices : List SetSlice) (found : List Bool) → length found ≡ length slices → list_any (λ found. found) found ≡ false
    → missing_of slices found ≡ slices
none_lost [] found each none = refl
none_lost (x ∷ xs) [] each none = absurd (omega arith)
none_lost (x ∷ xs) (true ∷ bs) each none = cc
none_lost (x ∷ xs) (false ∷ bs) each none = ap (λ (ys : List SetSlice). x ∷ ys) (none_lost xs bs (omega arith) none)

-- a test that no slice without checksums passes
pub any_missing : (test : SetSlice → Bool) → ((slice : SetSlice) → test (record slice { sums = None }) ≡ false)
    → (slices : List SetSlice) (found : List Bool) → list_any test (missing_of slices found) ≡ true → list_any test slices ≡ true
any_missing test known [] found some = cc
any_missing test known (x ∷ xs) [] some = cc
any_missing test known (x ∷ xs) (true ∷ bs) some = elim (or_cases (test (record x { sums = None })) (list_any test (missing_of xs bs)) some) [
  | inl here ↦ let both : true ≡ false = sym here ∙ known x in cc
  | inr later ↦ or_right (test x) (list_any test xs) (any_missing test known xs bs later)
]
any_missing test known (x ∷ xs) (false ∷ bs) some = elim (or_cases (test x) (list_any test (missing_of xs bs)) some) [
  | inl here ↦ or_left (test x) (list_any test xs) here
  | inr later ↦ or_right (test x) (list_any test xs) (any_missing test known xs bs later)
]

-- the number of short-slice lengths doesn't grow
pub few_missing : (set : SliceSet) (found : List Bool) (mode : Mode) → HasFewTails (sought_of set mode) → HasFewTails (sought_of (missing_set set found) mode)
few_missing set found Plain few = few
few_missing set found Tails few =
    let less : length (tails_of (missing_set set found)) ≤ length (tails_of set) =
    filter_less (λ own. list_any (has_own own has_known_sums) (missing_of set.slices found)) (λ own. list_any (has_own own has_known_sums) set.slices)
    (λ own. any_missing (has_own own has_known_sums) (λ slice. and-false (slice.length == own)) set.slices found)
    (range_with_len 1 (set.slice_size - 1)) in
    omega (arith, few, less)

module _ (set : SliceSet) (found : List Bool) (each : length found ≡ length set.slices) where
  unless_is_found : (n : ℕ) (a b : Bool) → (found_at found n ≡ false → a ≡ b) → (found_at found n || a) ≡ (found_at found n || b)
  unless_is_found n a b same = elim (cases_Bool (found_at found n)) [
    | inl h ↦ rw h refl
    | inr h ↦ rw h (same h)
  ]

  same_triples : (lengths : List ℕ) → triples_of (missing_set set found) lengths ≡ triples_of set lengths
  same_triples lengths =
      ap (λ (k : ℕ). flat_map (λ (p : Place). map (λ (n : ℕ). record { file = p.file; offset = p.offset; slice = n }) (range_with_len 0 k)) (places_of lengths))
      (as_many set.slices found each)

  module _ (mode : Mode) (files : List (List ℕ)) where
    abbrev all : Scan
    all = scan_of (sought_of set mode) files

    abbrev part : Scan
    part = scan_of (sought_of (missing_set set found) mode) files

    -- a slice that isn't found has the same sightings in both sets
    seen_alike : (x : Sighting) → found_at found x.slice ≡ false → is_sighting part x ≡ is_sighting all x
    seen_alike x none =
        ap (λ (s : Option SetSlice). option_map_or (is_seen mode set.slice_size (content_of all x.file) x.offset) s false)
        (same_slice set.slices found x.slice each none)

    pub found_alike : (n : ℕ) → found_at found n ≡ false → (test : Sighting → Bool) → ((x : Sighting) → test x ≡ true → x.slice ≡ n)
        → list_any test (sightings_of part) ≡ list_any test (sightings_of all)
    unfolding sightings_of
    found_alike n none test one =
        any_filtered test (is_sighting part) (is_sighting all) (λ x h. seen_alike x (ap (found_at found) (one x h) ∙ none))
        (triples_of (missing_set set found) (map length files))
        ∙ ap (λ (xs : List Sighting). list_any test (filter (is_sighting all) xs)) (same_triples (map length files))

    pub before_alike : (c : Cursor) (n : ℕ) → (found_at found n || is_sighted_before part c n) ≡ (found_at found n || is_sighted_before all c n)
    before_alike c n =
        unless_is_found n (is_sighted_before part c n) (is_sighted_before all c n) (λ none. found_alike n none
        (λ x. x.slice == n && is_before (cursor_of x) c) (λ x h. eqb-true x.slice n (and_parts _ _ h).0))
