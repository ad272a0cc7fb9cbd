-- A survey that looks for short slices at the places at which they are expected: a slice that it
-- sees there has a sighting, and it reads only files into which a missing slice fits.
use Rattle.std.proofs.Common.{◌≡◌, ◌⊎◌, ℕ, ◌+◌, ◌<◌, ◌≤◌, Bool, true, false, ◌||◌, ◌&&◌, ◌==◌, nat_le, nat_lt, List, [], length, refl, sym, ap, ◌∙◌, subst, arith, inl, inr, slice_get, slice_index, Option}
use Rattle.std.specs.Option.{option_map_or}
use Rattle.std.proofs.lemmas.Bool.{and_from, and_parts, cases_lt, eq-eqb, eqb-true, or_cases, or_parts, ltb-true, ltb-false, le-leb, le-ltb}
use Rattle.std.proofs.lemmas.List.{get_or_past}
use Rattle.parshelf.specs.Shelf.{ShelfState, Older, file_of}
use Rattle.parshelf.proofs.ShelfLaws.{length-file_of}
use Rattle.parset.specs.declared.recovery_set.SetSlice.{SetSlice}
use Rattle.parwindow.specs.Index.{SliceSet, has_fit_of, has_known_sums, has_own, has_sums, set_has_fit, slice_passes, sums_of}
use Rattle.parwindow.specs.Missing.{found_at, missing_set}
use Rattle.parwindow.specs.Window.{WindowState, zero_filled}
use Rattle.parfind.specs.Fitting.{is_fitting_compared}
use Rattle.parfind.specs.declared.cursors.sighting.Sighting.{Sighting}
use Rattle.parfind.specs.declared.tracks.mode.Mode.TheVariants.{Tails}
use Rattle.parfind.specs.declared.tracks.track.Track.{Track}
use Rattle.parfind.specs.declared.surveys.expected.Expected.{Expected}
use Rattle.parfind.specs.Waiting.{is_waiting}
use Rattle.parfind.specs.Expecting.{FitsAlso, SeesMore, SeesSighted, ShortState}
use Rattle.parfind.specs.Sightings.{is_slice_seen, sightings_of}
use Rattle.parfind.specs.Sought.{Sought, sought_of}
use Rattle.parfind.specs.Steps.{scan_of}
use Rattle.parfind.specs.Surveys.{is_sighted}
use Rattle.parfind.specs.Tracks.{IsTied}
use Rattle.parfind.proofs.place_laws.FittingLaws.{passing, passing_has}
use Rattle.parfind.proofs.place_laws.PlaceLaws.{Has-sightings_of}
use Rattle.parfind.proofs.place_laws.SeenLaws.{fit_seen, seen_there}
use Rattle.parfind.proofs.place_laws.UnfitPlaceLaws.{fits_more}
use Rattle.parfind.proofs.survey_laws.LeastMissingLaws.{some_sums}
use Rattle.parfind.proofs.survey_laws.MissingSetLaws.{missing_of, same_slice}
use Rattle.parfind.proofs.survey_laws.NotedLaws.{has_any}
use Rattle.parfind.proofs.track_laws.NextBytesLaws.{whole_window}

-- if no further slice was seen, each one that was seen has a sighting
pub sees_same : (shelf : ShelfState) (short : ShortState) → SeesSighted shelf short short
sees_same shelf short = record { set_is = refl; strict_is = refl; seen_is = λ files reads n h. inl h }

-- slices that have a sighting still have one after more reads
pub sees_later : (shelf later : ShelfState) (old new : ShortState) → Older shelf later → SeesSighted shelf old new → SeesSighted later old new
sees_later shelf later old new older sees = record {
  set_is = sees.set_is;
  strict_is = sees.strict_is;
  seen_is = λ files reads n h. sees.seen_is files (older files reads) n h;
}

-- a file that has bytes exists
counted_file : (files : List (List ℕ)) (file : ℕ) → 0 < length (file_of files file) → file < length files
counted_file files file some = elim (cases_lt file (length files)) [
  | inl less ↦ less
  | inr past ↦ absurd (omega (arith, ap length (get_or_past files file [] past)))
]

-- a slice that is seen at an offset of a file has a sighting
one_sighting : (sought : Sought) (files : List (List ℕ)) (file offset n : ℕ) → file < length files
    → is_slice_seen sought (file_of files file) offset n ≡ true → is_sighted (scan_of sought files) n ≡ true
one_sighting sought files file offset n counted seen =
    let x : Sighting = record { file = file; offset = offset; slice = n } in
    has_any (λ y. y.slice == n) (sightings_of (scan_of sought files)) x
    (Has-sightings_of (scan_of sought files) x counted (seen_there sought (file_of files file) offset n seen) seen)
    (eq-eqb n n refl)

-- slices that are seen in the full window of a place have a sighting
module _ (shelf : ShelfState) (window : WindowState) (track : Track) (tied : IsTied shelf window track)
    (full : length window.content ≡ window.capacity) (left : ℕ) (some : 0 < left)
    (room : track.window_offset + left ≡ slice_index shelf.lengths track.file) where
  pub sees_more : (old mid new : ShortState) → window.capacity ≡ old.set.slice_size → SeesSighted shelf old mid → SeesMore window.content left mid new
      → SeesSighted shelf old new
  sees_more old mid new sized sees more = record {
    set_is = more.set_is ∙ sees.set_is;
    strict_is = more.strict_is ∙ sees.strict_is;
    seen_is = λ files reads n h. elim (more.seen_is n h) [
      | inl before ↦ sees.seen_is files reads n before
      | inr passes ↦
          let sought : Sought = sought_of mid.set Tails in
          let file : List ℕ = file_of files track.file in
          let whole : length file ≡ slice_index shelf.lengths track.file = length-file_of shelf files track.file reads in
          let size : window.capacity ≡ mid.set.slice_size = sized ∙ sym (ap (λ (s : SliceSet). s.slice_size) sees.set_is) in
          let content = whole_window file mid.set.slice_size track.window_offset window.content (full ∙ size) (tied.content files reads) in
          let seen : is_slice_seen sought file track.window_offset n ≡ true =
          sym (fit_seen sought file track.window_offset left window.content (omega arith) (omega arith) content n) ∙ passes in
          let counted : track.file < length files = counted_file files track.file (omega arith) in
          inr (subst (λ (set : SliceSet). is_sighted (scan_of (sought_of set Tails) files) n ≡ true) sees.set_is
          (one_sighting sought files track.file track.window_offset n counted seen))
    ];
  }

-- if no short slice is expected and no short file is missing, a survey that goes on still looks for
-- a slice
pub open_strict : (missing count : ℕ) (waiting files : Bool) → (nat_lt missing count || (waiting || files)) ≡ true → waiting ≡ false → files ≡ false → missing < count
open_strict missing count waiting files open_ none no_file = elim (or_cases (nat_lt missing count) (waiting || files) open_) [
  | inl less ↦ ltb-true missing count less
  | inr is ↦ elim (or_cases waiting files is) [
    | inl waits ↦ let both : true ≡ false = sym waits ∙ none in cc
    | inr misses ↦ let both : true ≡ false = sym misses ∙ no_file in cc
  ]
]

-- a survey that ends looks for no slice any more
pub shut : (missing count : ℕ) (others : Bool) → (nat_lt missing count || others) ≡ false → count ≤ missing
shut missing count others none = let parts = or_parts (nat_lt missing count) others none in ltb-false missing count parts.0

-- if no slice is expected, none is after some were taken out
pub waits_less : (before after : Expected) → after.count ≤ before.count → is_waiting before ≡ false → is_waiting after ≡ false
waits_less before after fewer none = le-ltb 0 after.count (omega (arith, ltb-false 0 before.count none))

-- a missing slice fits into a file if one fits into what is left, if one is expected, or if a short
-- file is missing and a whole slice is left
pub fits_file : (part all : SliceSet) (left least given size length : ℕ) (waiting files : Bool) → left ≤ length → given ≡ size → FitsAlso part all
    → (least ≤ left) ⊎ ((waiting ≡ true) ⊎ ((files ≡ true) × (given ≤ left))) → (least ≤ left → set_has_fit part left ≡ true)
    → (waiting ≡ true → set_has_fit all length ≡ true) → (files ≡ true → set_has_fit all size ≡ true) → set_has_fit all length ≡ true
fits_file part all left least given size length waiting files within sized also (inl most) here ahead short =
    fits_more all left length within (also left (here most))
fits_file part all left least given size length waiting files within sized also (inr (inl is)) here ahead short = ahead is
fits_file part all left least given size length waiting files within sized also (inr (inr misses)) here ahead short =
    fits_more all size length (omega (arith, misses.1)) (short misses.0)

-- a short slice that isn't found and has known checksums fits into a file of the slice size
pub missing_fits : (set : SliceSet) (found : List Bool) → length found ≡ length set.slices → (n : ℕ) → found_at found n ≡ false
    → slice_passes set.slices has_known_sums n ≡ true → slice_passes set.slices (λ s. nat_lt s.length set.slice_size) n ≡ true
    → set_has_fit (missing_set set found) set.slice_size ≡ true
missing_fits set found each n none knows short =
    let slice = passing has_known_sums (slice_get set.slices n) knows in
    let below : nat_lt slice.0.length set.slice_size ≡ true =
    sym (ap (λ (s : Option SetSlice). option_map_or (λ (x : SetSlice). nat_lt x.length set.slice_size) s false) slice.1) ∙ short in
    passing_has (has_fit_of set.slice_size) (missing_of set.slices found) n slice.0 (same_slice set.slices found n each none ∙ slice.1)
    (some_sums (nat_le slice.0.length set.slice_size) slice.0.sums slice.2
    ∙ le-leb slice.0.length set.slice_size (omega (arith, ltb-true slice.0.length set.slice_size below)))

-- a slice with the checksums of the window's first `own` bytes, filled up with zeros, is seen with
-- tails
pub own_seen : (slices : List SetSlice) (size own left : ℕ) (content : List ℕ) → length content ≡ size → own ≤ left → (n : ℕ)
    → slice_passes slices (has_own own (has_sums (sums_of (zero_filled size own content)))) n ≡ true
    → slice_passes slices (is_fitting_compared Tails content left) n ≡ true
own_seen slices size own left content full most n passes =
    let slice = passing (has_own own (has_sums (sums_of (zero_filled size own content)))) (slice_get slices n) passes in
    let parts = and_parts (slice.0.length == own) (has_sums (sums_of (zero_filled size own content)) slice.0) slice.2 in
    let is : slice.0.length ≡ own = eqb-true slice.0.length own parts.0 in
    ap (λ (s : Option SetSlice). option_map_or (is_fitting_compared Tails content left) s false) slice.1
    ∙ ap (λ (k : ℕ). nat_le k left && has_sums (sums_of (zero_filled (length content) k content)) slice.0) is
    ∙ ap (λ (k : ℕ). nat_le own left && has_sums (sums_of (zero_filled k own content)) slice.0) full
    ∙ and_from (nat_le own left) (has_sums (sums_of (zero_filled size own content)) slice.0) (le-leb own left most) parts.1
