-- The set after some slices that are found have lost their checksums: for a slice that isn't found,
-- all is as in the whole set.
use Rattle.std.proofs.Common.{◌≡◌, ℕ, zero, suc, ◌≤◌, Bool, true, false, ◌||◌, ◌&&◌, ◌==◌, not, ◌-◌, List, [], ◌∷◌, ◌++◌, length, replicate, filter, refl, sym, ap, ◌∙◌, subst, arith, inl, inr, Option, Result, Ok, Err}
use Rattle.std.specs.List.{list_any, range_with_len}
use Rattle.std.specs.Option.{option_map_or}
use Rattle.std.specs.Result.{result_ok}
use Rattle.std.specs.Prelude.{IfOk}
use Rattle.std.proofs.lemmas.Bool.{cases_Bool, false_from_ne_true}
use Rattle.std.proofs.lemmas.List.{length-replicate}
use Rattle.std.proofs.Math.Bool.{and-false}
use Rattle.parset.specs.declared.recovery_set.SetSlice.{SetSlice}
use Rattle.parwindow.specs.Crc32.{crc_of}
use Rattle.parwindow.specs.Index.{SliceSet, has_known_sums, has_own, slice_passes}
use Rattle.parwindow.specs.Missing.{found_at, has_fit_crc_of, has_unfound, missing_set}
use Rattle.parfind.specs.declared.cursors.cursor.Cursor.{Cursor}
use Rattle.parfind.specs.declared.tracks.mode.Mode.{Mode}
use Rattle.parfind.specs.declared.tracks.mode.Mode.TheVariants.{Plain, Tails}
use Rattle.parfind.specs.Marks.{count_missing, has_compared_missing}
use Rattle.parfind.specs.Noting.{FindsMore}
use Rattle.parfind.specs.Smaller.{IsPart, part_of}
use Rattle.parfind.specs.Sightings.{Scan, sightings_between}
use Rattle.parfind.specs.Sought.{HasFewTails, compared_bytes, is_compared, sought_of}
use Rattle.parfind.specs.Steps.{scan_of}
use Rattle.parfind.specs.Surveys.{is_sighted_before}
use Rattle.parfind.proofs.place_laws.CursorOrderLaws.{From}
use Rattle.parfind.proofs.survey_laws.MissingSetLaws.{any_missing, as_many, before_alike, few_missing, filter_less, missing_of, none_lost, same_slice}
use Rattle.parfind.proofs.survey_laws.SightedLaws.{none_more}

none_set : (count : ℕ) → list_any (λ found. found) (replicate count false) ≡ false
none_set zero = refl
none_set (suc count) = none_set count

pub never_set : (count n : ℕ) → found_at (replicate count false) n ≡ true → ⊥
never_set zero n h = cc
never_set (suc count) zero h = cc
never_set (suc count) (suc n) h = never_set count n h

-- the whole set is a part, in which no slice has lost its checksums
pub whole_part : (set : SliceSet) (found : List Bool) → IsPart set found set
whole_part set found =
    let none : List Bool = replicate (length set.slices) false in
    let each : length none ≡ length set.slices = length-replicate {A = Bool} (length set.slices) false in
    record {
      lost = none;
      each = each;
      are_found = λ n h. absurd (never_set (length set.slices) n h);
      part_is = ap (λ (slices : List SetSlice). record set { slices = slices }) (sym (none_lost set.slices none each (none_set (length set.slices))));
    }

-- the set without the checksums of all slices that are found is a part
pub missing_part : (set : SliceSet) (found : List Bool) → length found ≡ length set.slices → IsPart set found (missing_set set found)
missing_part set found each = record { lost = found; each = each; are_found = λ n h. h; part_is = refl }

-- the smaller set that was made, or the whole set if memory was refused, is a part
pub smaller_part : (set : SliceSet) (found : List Bool) → length found ≡ length set.slices → {E : Type 0} (made : Result SliceSet E)
    → IfOk made (λ smaller. smaller ≡ missing_set set found) → IsPart set found (part_of set (result_ok made))
smaller_part set found each (Ok smaller) is = rw is (missing_part set found each)
smaller_part set found each (Err fault) is = whole_part set found

-- since a slice that is found stays found, a part stays one
pub part_kept : (set : SliceSet) (was now : List Bool) (part : SliceSet) → ((n : ℕ) → found_at was n ≡ true → found_at now n ≡ true)
    → IsPart set was part → IsPart set now part
part_kept set was now part kept is =
    record { lost = is.lost; each = is.each; are_found = λ n h. kept n (is.are_found n h); part_is = is.part_is }

filters_less : {A : Type 0} (p q r s : A → Bool) → ((x : A) → p x ≡ true → q x ≡ true) → ((x : A) → r x ≡ true → s x ≡ true)
    → (xs : List A) (y : A) → length (filter p (filter r xs ++ y ∷ [])) ≤ length (filter q (filter s xs ++ y ∷ []))
filters_less p q r s first second [] y = filter_less p q first (y ∷ [])
filters_less p q r s first second (x ∷ xs) y =
    let more = filters_less p q r s first second xs y in
    elim (cases_Bool (r x)) [
      | inl has ↦ let also : s x ≡ true = second x has in elim (cases_Bool (p x)) [
        | inl passes ↦ let too : q x ≡ true = first x passes in rw (has, also, passes, too) (omega (arith, more))
        | inr fails ↦ elim (cases_Bool (q x)) [
          | inl too ↦ rw (has, also, fails, too) (omega (arith, more))
          | inr not ↦ rw (has, also, fails, not) more
        ]
      ]
      | inr none ↦ elim (cases_Bool (s x)) [
        | inl also ↦ elim (cases_Bool (q x)) [
          | inl too ↦ rw (none, also, too) (omega (arith, more))
          | inr not ↦ rw (none, also, not) more
        ]
        | inr not ↦ rw (none, not) more
      ]
    ]

any_alike : (p q : ℕ → Bool) → ((n : ℕ) → p n ≡ q n) → (xs : List ℕ) → list_any p xs ≡ list_any q xs
any_alike p q same [] = refl
any_alike p q same (x ∷ xs) = ap (λ b. b || list_any p xs) (same x) ∙ ap (λ b. q x || b) (any_alike p q same xs)

-- the set without the checksums of some slices that are found
module _ (set : SliceSet) (lost found : List Bool) (each : length lost ≡ length set.slices)
    (are_found : (n : ℕ) → found_at lost n ≡ true → found_at found n ≡ true) where
  not_lost : (n : ℕ) → found_at found n ≡ false → found_at lost n ≡ false
  not_lost n none = false_from_ne_true (found_at lost n) (λ h. let both : true ≡ false = sym (are_found n h) ∙ none in cc)

  passes_alike : (test : SetSlice → Bool) (n : ℕ) → found_at found n ≡ false
      → slice_passes (missing_set set lost).slices test n ≡ slice_passes set.slices test n
  passes_alike test n none = ap (λ (s : Option SetSlice). option_map_or test s false) (same_slice set.slices lost n each (not_lost n none))

  finds_alike : (test : SetSlice → Bool) (now : List Bool) → FindsMore (slice_passes (missing_set set lost).slices test) found now
      → FindsMore (slice_passes set.slices test) found now
  finds_alike test now more n = more n ∙ elim (cases_Bool (found_at found n)) [
    | inl had ↦ rw had refl
    | inr none ↦ ap (λ (b : Bool). found_at found n || b) (passes_alike test n none)
  ]

  unfound_there : (test : SetSlice → Bool) (n : ℕ) → (slice_passes (missing_set set lost).slices test n && not (found_at found n))
      ≡ (slice_passes set.slices test n && not (found_at found n))
  unfound_there test n = elim (cases_Bool (found_at found n)) [
    | inl had ↦ rw had (and-false _ ∙ sym (and-false _))
    | inr none ↦ ap (λ (b : Bool). b && not (found_at found n)) (passes_alike test n none)
  ]

  unfound_alike : (test : SetSlice → Bool) → has_unfound (missing_set set lost).slices found test ≡ has_unfound set.slices found test
  unfound_alike test =
      any_alike _ _ (unfound_there test) (range_with_len 0 (length (missing_set set lost).slices))
      ∙ ap (λ (k : ℕ). list_any (λ n. slice_passes set.slices test n && not (found_at found n)) (range_with_len 0 k)) (as_many set.slices lost each)

  count_less : (mode : Mode) (window : List ℕ) (left : ℕ)
      → count_missing (sought_of (missing_set set lost) mode) found window left ≤ count_missing (sought_of set mode) found window left
  count_less Plain window left =
      filter_less (has_compared_missing (sought_of (missing_set set lost) Plain) found window left) (has_compared_missing (sought_of set Plain) found window left)
      (λ own h. sym (unfound_alike (is_compared (sought_of set Plain) own (has_fit_crc_of (crc_of (compared_bytes window own)) left))) ∙ h) (set.slice_size ∷ [])
  count_less Tails window left =
      filters_less (has_compared_missing (sought_of (missing_set set lost) Tails) found window left) (has_compared_missing (sought_of set Tails) found window left)
      (λ own. list_any (has_own own has_known_sums) (missing_of set.slices lost)) (λ own. list_any (has_own own has_known_sums) set.slices)
      (λ own h. sym (unfound_alike (is_compared (sought_of set Tails) own (has_fit_crc_of (crc_of (compared_bytes window own)) left))) ∙ h)
      (λ own. any_missing (has_own own has_known_sums) (λ slice. and-false (slice.length == own)) set.slices lost)
      (range_with_len 1 (set.slice_size - 1)) set.slice_size

  before_whole : (mode : Mode) (files : List (List ℕ)) (c : Cursor) (n : ℕ) → found_at found n ≡ false
      → is_sighted_before (scan_of (sought_of (missing_set set lost) mode) files) c n ≡ is_sighted_before (scan_of (sought_of set mode) files) c n
  before_whole mode files c n none = rw (not_lost n none) at (before_alike set lost each mode files c n)

module _ (set : SliceSet) (found : List Bool) (part : SliceSet) (is : IsPart set found part) where
  pub part_sized : part.slice_size ≡ set.slice_size
  part_sized = ap (λ (s : SliceSet). s.slice_size) is.part_is

  pub part_each : length part.slices ≡ length set.slices
  part_each = ap (λ (s : SliceSet). length s.slices) is.part_is ∙ as_many set.slices is.lost is.each

  -- the number of short-slice lengths doesn't grow
  pub few_part : (mode : Mode) → HasFewTails (sought_of set mode) → HasFewTails (sought_of part mode)
  few_part mode few = subst (λ (s : SliceSet). HasFewTails (sought_of s mode)) (sym is.part_is) (few_missing set is.lost mode few)

  -- the slices that are found in the part are those that are found in the whole set
  pub finds_whole : (test : SetSlice → Bool) (now : List Bool) → FindsMore (slice_passes part.slices test) found now
      → FindsMore (slice_passes set.slices test) found now
  finds_whole test now more =
      finds_alike set is.lost found is.each is.are_found test now
      (subst (λ (s : SliceSet). FindsMore (slice_passes s.slices test) found now) is.part_is more)

  -- in the part, no more slices are missing than in the whole set
  pub count_whole : (mode : Mode) (window : List ℕ) (left : ℕ)
      → count_missing (sought_of part mode) found window left ≤ count_missing (sought_of set mode) found window left
  count_whole mode window left =
      subst (λ (s : SliceSet). count_missing (sought_of s mode) found window left ≤ count_missing (sought_of set mode) found window left) (sym is.part_is)
      (count_less set is.lost found is.each is.are_found mode window left)

  -- if the part has no sighting between two cursors, the whole set has none of a slice that isn't
  -- found
  pub none_whole : (mode : Mode) (files : List (List ℕ)) (c d : Cursor) → From c d → sightings_between (scan_of (sought_of part mode) files) c d ≡ []
      → (n : ℕ) → found_at found n ≡ false
      → is_sighted_before (scan_of (sought_of set mode) files) c n ≡ is_sighted_before (scan_of (sought_of set mode) files) d n
  none_whole mode files c d on none n open_ =
      let all : Scan = scan_of (sought_of set mode) files in
      let alike : (e : Cursor) → is_sighted_before (scan_of (sought_of part mode) files) e n ≡ is_sighted_before all e n =
      λ e. subst (λ (s : SliceSet). is_sighted_before (scan_of (sought_of s mode) files) e n ≡ is_sighted_before all e n) (sym is.part_is)
      (before_whole set is.lost found is.each is.are_found mode files e n open_) in
      sym (alike c) ∙ none_more (scan_of (sought_of part mode) files) c d on none n ∙ alike d
