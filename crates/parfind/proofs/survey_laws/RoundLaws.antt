-- A survey in two rounds: the slices that each round finds and the files that it reads, given the
-- set with which it searches.
use Rattle.std.proofs.Common.{◌≡◌, ℕ, zero, suc, ◌-◌, ◌^◌, ◌<◌, ◌≤◌, Bool, true, false, ◌||◌, ◌==◌, not, nat_le, nat_lt, List, [], ◌∷◌, filter, map, get_or, length, replicate, refl, sym, ap, ◌∙◌, subst, arith, slice_get, slice_index, Option, Some, None, Result, Ok, Err, inl, inr}
use Rattle.std.specs.List.{list_any, range_with_len}
use Rattle.std.specs.Option.{option_map_or}
use Rattle.std.proofs.lemmas.Bool.{cases_Bool, cases_lt, leb-true, or_cases, or_left, or_right, or_parts, eqb-true, eq-eqb, false_from_ne_true, ltb-true, ltb-false, le-leb, not-false, not-true}
use Rattle.std.proofs.Math.Bool.{and-false}
use Rattle.std.proofs.lemmas.List.{get_or_past}
use Rattle.std.proofs.lemmas.Option.{slice_get-get_or, slice_get_past, slice_get_within, same_Some}
use Rattle.parset.specs.declared.recovery_set.SetSlice.{SetSlice}
use Rattle.parshelf.specs.Shelf.{ShelfState, ReadsAs}
use Rattle.parshelf.specs.Reads.{ReadsOnly}
use Rattle.parwindow.specs.Index.{IsSliceSet, SliceSet, has_known_sums, has_own, set_has_fit, has_fit_of, slice_passes, tails_of}
use Rattle.parwindow.specs.Missing.{found_at, missing_set}
use Rattle.parfind.specs.declared.cursors.sighting.Sighting.{Sighting}
use Rattle.parfind.specs.declared.tracks.mode.Mode.{Mode}
use Rattle.parfind.specs.declared.tracks.mode.Mode.TheVariants.{Plain, Tails}
use Rattle.parfind.specs.Handover.{SkipsUnfit}
use Rattle.parfind.specs.Expecting.{FitsAlso, SeesSighted, ShortState, flags_of}
use Rattle.parfind.specs.Rounds.{FindsFull, FindsShort, SecondFinds, is_full, is_short}
use Rattle.parfind.specs.Sightings.{Scan, content_of, is_seen, is_sighting, sightings_of, triples_of}
use Rattle.parfind.specs.Sought.{sought_of}
use Rattle.parfind.specs.Steps.{scan_of}
use Rattle.parfind.specs.Surveys.{FindsNoOther, FindsSighted, KeepsFound, SurveyFinds, is_sighted}
use Rattle.parfind.proofs.place_laws.FittingLaws.{passing, passing_has}
use Rattle.parfind.proofs.place_laws.ItemLaws.{Has, Has-filter, Has-passed}
use Rattle.parfind.proofs.place_laws.SeenLaws.{passes_there}
use Rattle.parfind.proofs.survey_laws.LeastMissingLaws.{some_sums}
use Rattle.parfind.proofs.survey_laws.MissingSetLaws.{any_filtered, any_missing, found_alike, missing_of, same_slice}
use Rattle.parfind.proofs.survey_laws.NotedLaws.{any_has, has_any, same_truth}
use Rattle.parfind.proofs.survey_laws.PartLaws.{never_set}
use Rattle.parfind.proofs.survey_laws.SettledLaws.{unknown_unseen}
use Rattle.parfind.proofs.track_laws.NextBytesLaws.{length-window_at}

-- a slice that has lost its checksums has no known ones
lost_lacks : (slices : List SetSlice) (lost : List Bool) (n : ℕ) → found_at lost n ≡ true → slice_passes (missing_of slices lost) has_known_sums n ≡ false
lost_lacks [] lost n h = refl
lost_lacks (x ∷ xs) [] n h = cc
lost_lacks (x ∷ xs) (true ∷ bs) zero h = refl
lost_lacks (x ∷ xs) (false ∷ bs) zero h = cc
lost_lacks (x ∷ xs) (b ∷ bs) (suc n) h = lost_lacks xs bs n h

module _ (set : SliceSet) (lost : List Bool) (each : length lost ≡ length set.slices) (mode : Mode) (files : List (List ℕ)) where
  -- a slice that still has its checksums has the same sightings in both sets
  pub kept_alike : (n : ℕ) → found_at lost n ≡ false
      → is_sighted (scan_of (sought_of (missing_set set lost) mode) files) n ≡ is_sighted (scan_of (sought_of set mode) files) n
  kept_alike n kept = found_alike set lost each mode files n kept (λ x. x.slice == n) (λ x h. eqb-true x.slice n h)

  -- a slice that has lost them has no sighting
  pub lost_unseen : (n : ℕ) → found_at lost n ≡ true → is_sighted (scan_of (sought_of (missing_set set lost) mode) files) n ≡ false
  lost_unseen n gone =
      unknown_unseen (scan_of (sought_of (missing_set set lost) mode) files) n (ap not (lost_lacks set.slices lost n gone))

  -- so a slice that has a sighting in the part has one in the whole set
  pub part_sighted : (n : ℕ) → is_sighted (scan_of (sought_of (missing_set set lost) mode) files) n ≡ true
      → is_sighted (scan_of (sought_of set mode) files) n ≡ true
  part_sighted n h = elim (cases_Bool (found_at lost n)) [
    | inl gone ↦ let both : true ≡ false = sym h ∙ lost_unseen n gone in cc
    | inr kept ↦ sym (kept_alike n kept) ∙ h
  ]

-- a slice of the slice size is seen in both modes or in neither
seen_full : (size : ℕ) (file : List ℕ) (offset : ℕ) (slice : SetSlice) → slice.length ≡ size → is_seen Plain size file offset slice ≡ is_seen Tails size file offset slice
seen_full size file offset slice full = rw (length-window_at file size offset, full) refl

-- a slice that isn't short has the slice size
full_length : (set : SliceSet) → IsSliceSet set → (n : ℕ) (slice : SetSlice) → slice_get set.slices n ≡ Some slice → is_short set n ≡ false → slice.length ≡ set.slice_size
full_length set is n slice there long =
    let within : n < length set.slices = slice_get_within set.slices n slice there in
    let own = is.own n slice within in
    let same : get_or set.slices n slice ≡ slice = same_Some (get_or set.slices n slice) slice (sym (slice_get-get_or set.slices n slice within) ∙ there) in
    let known : nat_lt slice.length set.slice_size ≡ false =
    sym (ap (λ (s : Option SetSlice). option_map_or (λ (x : SetSlice). nat_lt x.length set.slice_size) s false) there) ∙ long in
    omega (arith, ltb-false slice.length set.slice_size known, own.1, ap (λ (s : SetSlice). s.length) same)

-- slices that aren't short have sightings in both modes or in neither
module _ (set : SliceSet) (is : IsSliceSet set) (lost : List Bool) (each : length lost ≡ length set.slices) (files : List (List ℕ)) where
  abbrev plain : Scan
  plain = scan_of (sought_of (missing_set set lost) Plain) files

  abbrev tails : Scan
  tails = scan_of (sought_of (missing_set set lost) Tails) files

  seen_slice : (file : List ℕ) (offset n : ℕ) (slice : Option SetSlice) → slice_get set.slices n ≡ slice → is_short set n ≡ false
      → option_map_or (is_seen Plain set.slice_size file offset) slice false ≡ option_map_or (is_seen Tails set.slice_size file offset) slice false
  seen_slice file offset n None there long = refl
  seen_slice file offset n (Some slice) there long = seen_full set.slice_size file offset slice (full_length set is n slice there long)

  seen_modes : (x : Sighting) (n : ℕ) → x.slice ≡ n → found_at lost n ≡ false → is_short set n ≡ false → is_sighting plain x ≡ is_sighting tails x
  seen_modes x n one kept long =
      let file : List ℕ = content_of plain x.file in
      let there : slice_get (missing_of set.slices lost) x.slice ≡ slice_get set.slices n =
      ap (slice_get (missing_of set.slices lost)) one ∙ same_slice set.slices lost n each kept in
      ap (λ (s : Option SetSlice). option_map_or (is_seen Plain set.slice_size file x.offset) s false) there
      ∙ seen_slice file x.offset n (slice_get set.slices n) refl long
      ∙ sym (ap (λ (s : Option SetSlice). option_map_or (is_seen Tails set.slice_size file x.offset) s false) there)

  pub modes_alike : (n : ℕ) → (found_at lost n ≡ false → is_short set n ≡ false)
      → is_sighted (scan_of (sought_of (missing_set set lost) Plain) files) n ≡ is_sighted (scan_of (sought_of (missing_set set lost) Tails) files) n
  unfolding sightings_of
  modes_alike n long = elim (cases_Bool (found_at lost n)) [
    | inl gone ↦ lost_unseen set lost each Plain files n gone ∙ sym (lost_unseen set lost each Tails files n gone)
    | inr kept ↦ any_filtered (λ (x : Sighting). x.slice == n) (is_sighting plain) (is_sighting tails)
        (λ x h. seen_modes x n (eqb-true x.slice n h) kept (long kept)) (triples_of (missing_set set lost) (map length files))
  ]

-- the order in which checksums are lost makes no difference
commute : (xs : List SetSlice) (a b : List Bool) → length a ≡ length xs → length b ≡ length xs → missing_of (missing_of xs a) b ≡ missing_of (missing_of xs b) a
commute [] a b each also = refl
commute (x ∷ xs) [] b each also = absurd (omega arith)
commute (x ∷ xs) (p ∷ ps) [] each also = absurd (omega arith)
commute (x ∷ xs) (true ∷ ps) (true ∷ qs) each also = ap (λ ys. record x { sums = None } ∷ ys) (commute xs ps qs (omega arith) (omega arith))
commute (x ∷ xs) (true ∷ ps) (false ∷ qs) each also = ap (λ ys. record x { sums = None } ∷ ys) (commute xs ps qs (omega arith) (omega arith))
commute (x ∷ xs) (false ∷ ps) (true ∷ qs) each also = ap (λ ys. record x { sums = None } ∷ ys) (commute xs ps qs (omega arith) (omega arith))
commute (x ∷ xs) (false ∷ ps) (false ∷ qs) each also = ap (λ ys. x ∷ ys) (commute xs ps qs (omega arith) (omega arith))

-- losing some checksums first, and then these with others, is losing all of them at once
lost_again : (xs : List SetSlice) (a b : List Bool) → length a ≡ length xs → length b ≡ length xs → ((n : ℕ) → found_at a n ≡ true → found_at b n ≡ true)
    → missing_of (missing_of xs a) b ≡ missing_of xs b
lost_again [] a b each also more = refl
lost_again (x ∷ xs) [] b each also more = absurd (omega arith)
lost_again (x ∷ xs) (p ∷ ps) [] each also more = absurd (omega arith)
lost_again (x ∷ xs) (true ∷ ps) (true ∷ qs) each also more = ap (λ ys. record x { sums = None } ∷ ys) (lost_again xs ps qs (omega arith) (omega arith) (λ n. more (suc n)))
lost_again (x ∷ xs) (true ∷ ps) (false ∷ qs) each also more = let wrong : false ≡ true = more 0 refl in cc
lost_again (x ∷ xs) (false ∷ ps) (true ∷ qs) each also more = ap (λ ys. record x { sums = None } ∷ ys) (lost_again xs ps qs (omega arith) (omega arith) (λ n. more (suc n)))
lost_again (x ∷ xs) (false ∷ ps) (false ∷ qs) each also more = ap (λ ys. x ∷ ys) (lost_again xs ps qs (omega arith) (omega arith) (λ n. more (suc n)))

-- a call that skips the files into which no slice of a part fits skips those into which no slice of
-- the whole fits, if a slice of the whole fits wherever one of the part does
skips_if : (whole part : SliceSet) (old new : ShelfState) → ((left : ℕ) → set_has_fit part left ≡ true → set_has_fit whole left ≡ true)
    → SkipsUnfit part old new → SkipsUnfit whole old new
skips_if whole part old new fewer skips f none =
    skips f (false_from_ne_true _ (λ fits. let both : true ≡ false = sym (fewer (slice_index old.lengths f) fits) ∙ none in cc))

-- slices that are found stay found; a number past the last slice is never found
pub kept_each : (was now : List Bool) → KeepsFound was now → (n : ℕ) → found_at was n ≡ true → found_at now n ≡ true
kept_each was now kept n had = elim (cases_lt n (length was)) [
  | inl less ↦ kept n less had
  | inr past ↦ let both : false ≡ true = sym (get_or_past was n false past) ∙ had in cc
]

module _ (set : SliceSet) (found : List Bool) (each : length found ≡ length set.slices) where
  -- if a missing slice of a part fits, a missing slice of the whole set does
  pub fits_of_part : (lost : List Bool) → length lost ≡ length set.slices → FitsAlso (missing_set (missing_set set lost) found) (missing_set set found)
  fits_of_part lost also left fits =
      let fewer : list_any (has_fit_of left) (missing_of (missing_of set.slices found) lost) ≡ true =
      rw (commute set.slices lost found also each) at fits in
      any_missing (has_fit_of left) (λ slice. refl) (missing_of set.slices found) lost fewer

  pub skips_part : (lost : List Bool) → length lost ≡ length set.slices → (old new : ShelfState)
      → SkipsUnfit (missing_set (missing_set set lost) found) old new → SkipsUnfit (missing_set set found) old new
  skips_part lost also old new = skips_if (missing_set set found) (missing_set (missing_set set lost) found) old new (fits_of_part lost also)

  -- if a slice fits that is missing later, one fits that is missing now
  pub fits_sooner : (later : List Bool) → length later ≡ length set.slices → ((n : ℕ) → found_at found n ≡ true → found_at later n ≡ true) → (left : ℕ)
      → set_has_fit (missing_set set later) left ≡ true → set_has_fit (missing_set set found) left ≡ true
  fits_sooner later also kept left fits =
      let fewer : list_any (has_fit_of left) (missing_of (missing_of set.slices found) later) ≡ true =
      rw (← lost_again set.slices found later each also kept) at fits in
      any_missing (has_fit_of left) (λ slice. refl) (missing_of set.slices found) later fewer

  pub skips_later : (later : List Bool) → length later ≡ length set.slices → ((n : ℕ) → found_at found n ≡ true → found_at later n ≡ true)
      → (old new : ShelfState) → SkipsUnfit (missing_set set later) old new → SkipsUnfit (missing_set set found) old new
  skips_later later also kept old new = skips_if (missing_set set found) (missing_set set later) old new (fits_sooner later also kept)

  -- so, if each of two calls skips the files into which none of its missing slices fits, both
  -- together skip those into which none of the first call's fits
  pub skips_twice : (later : List Bool) → length later ≡ length set.slices → KeepsFound found later → (old mid new : ShelfState) → ReadsOnly old mid
      → SkipsUnfit (missing_set set found) old mid → SkipsUnfit (missing_set set later) mid new → SkipsUnfit (missing_set set found) old new
  skips_twice later also kept old mid new only first second f none =
      let lengths = ap (λ (v : ShelfState). v.lengths) only.counts in
      let after = skips_later later also (kept_each found later kept) mid new second f (rw lengths none) in
      omega (arith, first f none, after)

-- one filter after another is one filter
filter_twice : (p r q : ℕ → Bool) (xs : List ℕ) → ((x : ℕ) → Has xs x → p x ≡ true → r x ≡ q x) → ((x : ℕ) → q x ≡ true → p x ≡ true)
    → filter r (filter p xs) ≡ filter q xs
filter_twice p r q [] same less = refl
filter_twice p r q (x ∷ xs) same less =
    let rest = filter_twice p r q xs (λ y has. same y (inr has)) less in
    elim (cases_Bool (p x)) [
      | inl passes ↦ let alike : r x ≡ q x = same x (inl refl) passes in elim (cases_Bool (q x)) [
        | inl also ↦ rw (passes, alike, also, rest) refl
        | inr not ↦ rw (passes, alike, not) rest
      ]
      | inr fails ↦ let none : q x ≡ false = false_from_ne_true (q x) (λ h. let both : true ≡ false = sym (less x h) ∙ fails in cc) in
          rw (fails, none) rest
    ]

-- those short-slice lengths of a set that a part has are all of the part
pub tails_of_part : (set : SliceSet) (lost : List Bool) → length lost ≡ length set.slices
    → filter (λ own. list_any (λ tail. tail == own) (tails_of (missing_set set lost))) (tails_of set) ≡ tails_of (missing_set set lost)
tails_of_part set lost each =
    let own_of : List SetSlice → ℕ → Bool = λ slices own. list_any (has_own own has_known_sums) slices in
    let range : List ℕ = range_with_len 1 (set.slice_size - 1) in
    let q : ℕ → Bool = own_of (missing_of set.slices lost) in
    filter_twice (own_of set.slices) (λ own. list_any (λ tail. tail == own) (filter q range)) q range
    (λ x has passes. same_truth _ _
    (λ h. let some = any_has (λ tail. tail == x) (filter q range) h in
    let there = Has-passed q range some.0 some.1 in
    subst (λ (y : ℕ). q y ≡ true) (eqb-true some.0 x some.2) there.1)
    (λ h. has_any (λ tail. tail == x) (filter q range) x (Has-filter q range x has h) (eq-eqb x x refl)))
    (λ x. any_missing (has_own x has_known_sums) (λ slice. and-false (slice.length == x)) set.slices lost)

-- a slice that has a sighting exists
scan_there : (scan : Scan) (n : ℕ) → is_sighted scan n ≡ true → n < length scan.sought.set.slices
scan_there scan n one = elim (cases_lt n (length scan.sought.set.slices)) [
  | inl less ↦ less
  | inr past ↦
      let none : slice_passes scan.sought.set.slices has_known_sums n ≡ false =
      ap (λ (s : Option SetSlice). option_map_or has_known_sums s false) (slice_get_past scan.sought.set.slices n past) in
      let both : true ≡ false = sym one ∙ unknown_unseen scan n (ap not none) in cc
]

sighted_there : (set : SliceSet) (mode : Mode) (files : List (List ℕ)) (n : ℕ) → is_sighted (scan_of (sought_of set mode) files) n ≡ true → n < length set.slices
sighted_there set mode files n one = scan_there (scan_of (sought_of set mode) files) n one

-- a full-length slice isn't short
full_long : (set : SliceSet) (n : ℕ) → is_full set n ≡ true → is_short set n ≡ false
full_long set n full =
    let slice = passing (λ (s : SetSlice). not (nat_lt s.length set.slice_size)) (slice_get set.slices n) full in
    ap (λ (s : Option SetSlice). option_map_or (λ (x : SetSlice). nat_lt x.length set.slice_size) s false) slice.1
    ∙ not-true (nat_lt slice.0.length set.slice_size) slice.2

full_there : (set : SliceSet) (n : ℕ) → is_full set n ≡ true → n < length set.slices
full_there set n full = passes_there set (λ (s : SetSlice). not (nat_lt s.length set.slice_size)) n full

-- the first round finds the full-length slices that weren't found and have a sighting
module _ (set : SliceSet) (is : IsSliceSet set) (was lost : List Bool) (each : length lost ≡ length set.slices)
    (lost_is : (n : ℕ) → found_at lost n ≡ (found_at was n || is_short set n)) (files : List (List ℕ)) where
  abbrev whole : Scan
  whole = scan_of (sought_of set Tails) files

  abbrev first : Scan
  first = scan_of (sought_of (missing_set set lost) Plain) files

  alike : (n : ℕ) → is_sighted first n ≡ is_sighted (scan_of (sought_of (missing_set set lost) Tails) files) n
  alike n = modes_alike set is lost each files n (λ kept. (or_parts (found_at was n) (is_short set n) (sym (lost_is n) ∙ kept)).1)

  first_sighted : (n : ℕ) → is_sighted first n ≡ true → is_sighted whole n ≡ true
  first_sighted n h = part_sighted set lost each Tails files n (sym (alike n) ∙ h)

  module _ (mid now seen : List Bool) (counted : length mid ≡ length set.slices) (same : length now ≡ length mid)
      (noted : (n : ℕ) → n < length mid → found_at now n ≡ (found_at mid n || found_at seen n))
      (sees : (n : ℕ) → found_at seen n ≡ true → is_sighted whole n ≡ true) where
    pub first_no_other : FindsNoOther first was mid → FindsNoOther whole was now
    first_no_other none n there h =
        let within : n < length mid = omega arith in
        elim (or_cases (found_at mid n) (found_at seen n) (sym (noted n within) ∙ h)) [
          | inl sooner ↦ elim (or_cases (found_at was n) (is_sighted first n) (none n within sooner)) [
            | inl had ↦ or_left (found_at was n) (is_sighted whole n) had
            | inr one ↦ or_right (found_at was n) (is_sighted whole n) (first_sighted n one)
          ]
          | inr one ↦ or_right (found_at was n) (is_sighted whole n) (sees n one)
        ]

    pub first_finds : FindsSighted first was mid → FindsFull whole was now
    first_finds finds = record {
      no_other = first_no_other (λ n there h. sym (finds n there) ∙ h);
      full = λ n full one.
          let within : n < length mid = omega (arith, full_there set n full) in
          let found : found_at mid n ≡ true = finds n within ∙ elim (cases_Bool (found_at was n)) [
            | inl had ↦ or_left (found_at was n) (is_sighted first n) had
            | inr none ↦
                let kept : found_at lost n ≡ false = lost_is n ∙ ap (λ b. b || is_short set n) none ∙ full_long set n full in
                or_right (found_at was n) (is_sighted first n) (alike n ∙ kept_alike set lost each Tails files n kept ∙ one)
          ] in
          noted n within ∙ or_left (found_at mid n) (found_at seen n) found;
    }

-- the second round, if its index was made, finds the short slices that weren't found and have a
-- sighting
module _ (set : SliceSet) (was now lost : List Bool) (each : length lost ≡ length set.slices) (counted : length now ≡ length set.slices)
    (lost_is : (n : ℕ) → found_at lost n ≡ (found_at was n || is_full set n)) (files : List (List ℕ)) where
  abbrev every : Scan
  every = scan_of (sought_of set Tails) files

  abbrev second : Scan
  second = scan_of (sought_of (missing_set set lost) Tails) files

  pub second_no_other : FindsNoOther second was now → FindsNoOther every was now
  second_no_other none n there h = elim (or_cases (found_at was n) (is_sighted second n) (none n there h)) [
    | inl had ↦ or_left (found_at was n) (is_sighted every n) had
    | inr one ↦ or_right (found_at was n) (is_sighted every n) (part_sighted set lost each Tails files n one)
  ]

  pub second_finds : FindsSighted second was now → FindsShort every was now
  second_finds finds = record {
    no_other = second_no_other (λ n there h. sym (finds n there) ∙ h);
    short = λ n short one.
        let there : n < length now = omega (arith, sighted_there set Tails files n one) in
        finds n there ∙ elim (cases_Bool (found_at was n)) [
          | inl had ↦ or_left (found_at was n) (is_sighted second n) had
          | inr none ↦
              let kept : found_at lost n ≡ false = lost_is n ∙ ap (λ b. b || is_full set n) none ∙ short in
              or_right (found_at was n) (is_sighted second n) (kept_alike set lost each Tails files n kept ∙ one)
        ];
  }

-- the second round finds them with the index of all slices, too
pub every_finds : (scan : Scan) (was now : List Bool) → length now ≡ length scan.sought.set.slices → FindsSighted scan was now → FindsShort scan was now
every_finds scan was now counted finds = record {
  no_other = λ n there h. sym (finds n there) ∙ h;
  short = λ n short one. finds n (omega (arith, scan_there scan n one)) ∙ or_right (found_at was n) (is_sighted scan n) one;
}

-- a short slice that isn't found and has a sighting fits into a file with a byte less than the
-- slice size
short_fits : (set : SliceSet) (found : List Bool) → length found ≡ length set.slices → (files : List (List ℕ)) (n : ℕ)
    → is_full set n ≡ false → found_at found n ≡ false → is_sighted (scan_of (sought_of set Tails) files) n ≡ true
    → set_has_fit (missing_set set found) (set.slice_size - 1) ≡ true
short_fits set found each files n short none one =
    let knows : slice_passes set.slices has_known_sums n ≡ true = elim (cases_Bool (slice_passes set.slices has_known_sums n)) [
      | inl knows ↦ knows
      | inr lacks ↦ let both : true ≡ false = sym one ∙ unknown_unseen (scan_of (sought_of set Tails) files) n (ap not lacks) in cc
    ] in
    let slice = passing has_known_sums (slice_get set.slices n) knows in
    let long : not (nat_lt slice.0.length set.slice_size) ≡ false =
    sym (ap (λ (s : Option SetSlice). option_map_or (λ (x : SetSlice). not (nat_lt x.length set.slice_size)) s false) slice.1) ∙ short in
    let less : slice.0.length < set.slice_size = ltb-true slice.0.length set.slice_size (not-false (nat_lt slice.0.length set.slice_size) long) in
    passing_has (has_fit_of (set.slice_size - 1)) (missing_of set.slices found) n slice.0 (same_slice set.slices found n each none ∙ slice.1)
    (some_sums (nat_le slice.0.length (set.slice_size - 1)) slice.0.sums slice.2 ∙ le-leb slice.0.length (set.slice_size - 1) (omega arith))

-- if no short slice is missing, no second round is needed
pub none_left : (set : SliceSet) → IsSliceSet set → (found : List Bool) → length found ≡ length set.slices → (least : ℕ)
    → ((left : ℕ) → left < 2 ^ 64 - 1 → set_has_fit (missing_set set found) left ≡ nat_le least left) → set.slice_size ≤ least
    → (files : List (List ℕ)) → FindsShort (scan_of (sought_of set Tails) files) found found
none_left set is found each least fits full files = record {
  no_other = λ n there h. or_left (found_at found n) (is_sighted (scan_of (sought_of set Tails) files) n) h;
  short = λ n short one. elim (cases_Bool (found_at found n)) [
    | inl had ↦ had
    | inr none ↦
        let left : nat_le least (set.slice_size - 1) ≡ true =
        sym (fits (set.slice_size - 1) (omega (arith, is.greatest_size))) ∙ short_fits set found each files n short none one in
        let most : least ≤ set.slice_size - 1 = leb-true least (set.slice_size - 1) left in
        absurd (omega (arith, is.least_size))
  ];
}

-- both rounds together find each slice that has a sighting
pub both_find : (scan : Scan) (was mid now : List Bool) → length mid ≡ length now → length now ≡ length was → FindsFull scan was mid → FindsShort scan mid now → KeepsFound was mid → KeepsFound mid now → FindsSighted scan was now
both_find scan was mid now same each first second before kept n there =
    same_truth (found_at now n) (found_at was n || is_sighted scan n)
    (λ h. elim (or_cases (found_at mid n) (is_sighted scan n) (second.no_other n there h)) [
      | inl sooner ↦ first.no_other n (omega arith) sooner
      | inr one ↦ or_right (found_at was n) (is_sighted scan n) one
    ])
    (λ h. elim (or_cases (found_at was n) (is_sighted scan n) h) [
      | inl had ↦ kept n (omega arith) (before n (omega arith) had)
      | inr one ↦ elim (cases_Bool (is_full scan.sought.set n)) [
        | inl full ↦ kept n (omega arith) (first.full n full one)
        | inr short ↦ second.short n short one
      ]
    ])

-- this is the clause of the second round: after an error it has found no other slice
pub second_result : (set : SliceSet) (was now lost : List Bool) → length lost ≡ length set.slices → length now ≡ length set.slices
    → ((n : ℕ) → found_at lost n ≡ (found_at was n || is_full set n)) → (files : List (List ℕ)) → {A E : Type 0} (result : Result A E)
    → SurveyFinds (scan_of (sought_of (missing_set set lost) Tails) files) was now result → SecondFinds (scan_of (sought_of set Tails) files) was now result
second_result set was now lost each counted lost_is files (Ok answer) finds = second_finds set was now lost each counted lost_is files finds
second_result set was now lost each counted lost_is files (Err fault) finds = second_no_other set was now lost each counted lost_is files finds

pub every_result : (scan : Scan) (was now : List Bool) → length now ≡ length scan.sought.set.slices → {A E : Type 0} (result : Result A E)
    → SurveyFinds scan was now result → SecondFinds scan was now result
every_result scan was now counted (Ok answer) finds = every_finds scan was now counted finds
every_result scan was now counted (Err fault) finds = finds

-- a slice that was seen at an expected place has a sighting, if none was seen at the beginning
pub seen_sighted : (shelf : ShelfState) (set : SliceSet) (old new : ShortState) → old ≡ record { set = set; seen = Some (replicate (length set.slices) false) }
    → SeesSighted shelf old new → (files : List (List ℕ)) → ReadsAs shelf files → (n : ℕ) → found_at (flags_of new.seen) n ≡ true
    → is_sighted (scan_of (sought_of set Tails) files) n ≡ true
seen_sighted shelf set old new none sees files reads n h = elim (rw none at (sees.seen_is files reads n h)) [
  | inl before ↦ absurd (never_set (length set.slices) n before)
  | inr one ↦ one
]

filter_all : (r : ℕ → Bool) (xs : List ℕ) → ((x : ℕ) → Has xs x → r x ≡ true) → filter r xs ≡ xs
filter_all r [] all = refl
filter_all r (x ∷ xs) all = rw (all x (inl refl), filter_all r xs (λ y has. all y (inr has))) refl

-- all short-slice lengths of a set are lengths of the set
pub tails_of_whole : (set : SliceSet) → filter (λ own. list_any (λ tail. tail == own) (tails_of set)) (tails_of set) ≡ tails_of set
tails_of_whole set = filter_all _ (tails_of set) (λ x has. has_any (λ tail. tail == x) (tails_of set) x has (eq-eqb x x refl))
