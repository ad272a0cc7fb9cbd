-- The slices that are found in a window at one compared length after another, and the digests that
-- are taken of it.
use Rattle.std.proofs.Common.{◌≡◌, ℕ, ◌+◌, ◌<◌, ◌≤◌, Bool, true, false, cond, ◌==◌, List, [], ◌∷◌, length, filter, take, get_or-take, slice_get, slice_index, sym, ap, ◌∙◌, arith, inl, inr}
use Rattle.std.proofs.lemmas.Bool.{and_parts, cases_Bool, eqb-true, false_from_ne_true, or_cases}
use Rattle.std.proofs.lemmas.List.{get_or_default, length-take-le}
use Rattle.std.proofs.lemmas.List.Filters.{length-filter_more}
use Rattle.std.proofs.lemmas.List.Folds.{Any-from_list_any}
use Rattle.std.proofs.lemmas.Option.{same_Some}
use Rattle.parset.specs.declared.recovery_set.SetSlice.{SetSlice}
use Rattle.parwindow.specs.Crc32.{crc_of}
use Rattle.parwindow.specs.Index.{SliceSet, slice_passes, sums_of}
use Rattle.parwindow.specs.Missing.{has_fit_crc_of, has_unfound, found_at}
use Rattle.parwindow.specs.Window.{WindowState, zero_filled}
use Rattle.parfind.specs.Fitting.{is_fitting_match, is_fitting_of}
use Rattle.parfind.specs.Noting.{FindsMore, TakesDigests}
use Rattle.parfind.specs.Marks.{count_missing, has_compared_missing}
use Rattle.parfind.specs.Sought.{Sought, sought_of, is_compared, compared_length, compared_lengths}
use Rattle.parfind.specs.declared.tracks.mode.Mode.{Mode}
use Rattle.parfind.proofs.track_laws.EachLengthLaws.{compared_rise, seen_by}
use Rattle.parfind.proofs.place_laws.FittingLaws.{passing}
use Rattle.parfind.proofs.survey_laws.NotedLaws.{found_kept, missing_there, missing_was, same_truth}

-- a slice has only one compared length
one_length : (set : SliceSet) (mode : Mode) (own other n : ℕ) (first second : SetSlice → Bool)
    → slice_passes set.slices (is_compared (sought_of set mode) own first) n ≡ true
    → slice_passes set.slices (is_compared (sought_of set mode) other second) n ≡ true → own ≡ other
one_length set mode own other n first second here there =
    let one = passing (is_compared (sought_of set mode) own first) (slice_get set.slices n) here in
    let two = passing (is_compared (sought_of set mode) other second) (slice_get set.slices n) there in
    let same : one.0 ≡ two.0 = same_Some one.0 two.0 (sym one.1 ∙ two.1) in
    let by_one : compared_length mode set.slice_size one.0 ≡ own =
    eqb-true (compared_length mode set.slice_size one.0) own (and_parts (compared_length mode set.slice_size one.0 == own) (first one.0) one.2).0 in
    let by_two : compared_length mode set.slice_size two.0 ≡ other =
    eqb-true (compared_length mode set.slice_size two.0) other (and_parts (compared_length mode set.slice_size two.0 == other) (second two.0) two.2).0 in
    sym by_one ∙ ap (compared_length mode set.slice_size) same ∙ by_two

module _ (set : SliceSet) (mode : Mode) (window : List ℕ) (left k : ℕ) (below : k < length (compared_lengths (sought_of set mode)))
    (was now : List Bool) (marks : FindsMore (seen_by set mode window left (take k (compared_lengths (sought_of set mode)))) was now) where
  -- a slice of this compared length isn't seen at the shorter ones
  not_before : (test : SetSlice → Bool) (n : ℕ)
      → slice_passes set.slices (is_compared (sought_of set mode) (slice_index (compared_lengths (sought_of set mode)) k) test) n ≡ true
      → seen_by set mode window left (take k (compared_lengths (sought_of set mode))) n ≡ true → ⊥
  not_before test n here before =
      let owns : List ℕ = compared_lengths (sought_of set mode) in
      let some = Any-from_list_any (λ own. slice_passes set.slices (is_fitting_of (sought_of set mode) window left own) n) (take k owns) before in
      let early : some.0 < k = omega (arith, some.2, length-take-le k owns (omega arith)) in
      let own : slice_index owns some.0 ≡ some.1 =
      get_or_default owns some.0 0 some.1 (omega arith) ∙ sym (get_or-take k owns some.0 some.1 early) ∙ some.3 in
      let same : slice_index owns k ≡ some.1 =
      one_length set mode (slice_index owns k) some.1 n test (is_fitting_match (sums_of (zero_filled (length window) some.1 window)) left) here some.4 in
      absurd (omega (arith, own, same, compared_rise set mode some.0 k early below))

  -- so the same slices of this length are missing as before the shorter ones were looked at
  pub missing_same : has_compared_missing (sought_of set mode) now window left (slice_index (compared_lengths (sought_of set mode)) k)
      ≡ has_compared_missing (sought_of set mode) was window left (slice_index (compared_lengths (sought_of set mode)) k)
  missing_same =
      let own : ℕ = slice_index (compared_lengths (sought_of set mode)) k in
      let seen : ℕ → Bool = seen_by set mode window left (take k (compared_lengths (sought_of set mode))) in
      let test : SetSlice → Bool = has_fit_crc_of (crc_of (zero_filled (length window) own window)) left in
      let fit : SetSlice → Bool = is_compared (sought_of set mode) own test in
      same_truth (has_unfound set.slices now fit) (has_unfound set.slices was fit) (missing_was set was now fit (found_kept seen was now marks))
      (missing_there set now was fit fit (λ n has none. (
        has,
        false_from_ne_true (found_at now n) (λ marked. elim (or_cases (found_at was n) (seen n) (sym (marks n) ∙ marked)) [
          | inl had ↦ let both : true ≡ false = sym had ∙ none in cc
          | inr before ↦ not_before test n has before
        ]),
      )))

  -- one more digest is taken if some slice of this length is missing
  pub digests_on : (u v w : WindowState)
      → TakesDigests (length (filter (has_compared_missing (sought_of set mode) was window left) (take k (compared_lengths (sought_of set mode))))) u v
      → TakesDigests (cond (has_compared_missing (sought_of set mode) now window left (slice_index (compared_lengths (sought_of set mode)) k)) 1 0) v w
      → TakesDigests (length (filter (has_compared_missing (sought_of set mode) was window left) (take (k + 1) (compared_lengths (sought_of set mode))))) u w
  digests_on u v w before next =
      let p : ℕ → Bool = has_compared_missing (sought_of set mode) was window left in
      let owns : List ℕ = compared_lengths (sought_of set mode) in
      let n : ℕ = length (filter p (take k owns)) in
      let more : length (filter p (take (k + 1) owns)) ≡ n + cond (p (slice_index owns k)) 1 0 = length-filter_more p owns k 0 below in
      let one : TakesDigests (cond (p (slice_index owns k)) 1 0) v w = rw missing_same at next in
      let sum : u.digests + n + cond (p (slice_index owns k)) 1 0 ≡ u.digests + (n + cond (p (slice_index owns k)) 1 0) = omega arith in
      rw more (one ∙ ap (λ (x : WindowState). record x { digests = x.digests + cond (p (slice_index owns k)) 1 0 }) before
      ∙ ap (λ (m : ℕ). record u { digests = m }) sum)

filter_no_more : (p q : ℕ → Bool) → ((x : ℕ) → p x ≡ true → q x ≡ true) → (xs : List ℕ) → length (filter p xs) ≤ length (filter q xs)
filter_no_more p q weaker [] = omega arith
filter_no_more p q weaker (x ∷ xs) = elim (cases_Bool (p x)) [
  | inl passes ↦ rw (passes, weaker x passes) (omega (arith, filter_no_more p q weaker xs))
  | inr fails ↦ elim (cases_Bool (q x)) [
    | inl also ↦ rw (fails, also) (omega (arith, filter_no_more p q weaker xs))
    | inr not ↦ rw (fails, not) (filter_no_more p q weaker xs)
  ]
]

-- no more slices are missing than before, since a slice that is found stays found
pub count_was : (sought : Sought) (was now : List Bool) (window : List ℕ) (left : ℕ) → ((k : ℕ) → found_at was k ≡ true → found_at now k ≡ true)
    → count_missing sought now window left ≤ count_missing sought was window left
count_was sought was now window left kept =
    filter_no_more (has_compared_missing sought now window left) (has_compared_missing sought was window left)
    (λ own. missing_was sought.set was now (is_compared sought own (has_fit_crc_of (crc_of (zero_filled (length window) own window)) left)) kept)
    (compared_lengths sought)
