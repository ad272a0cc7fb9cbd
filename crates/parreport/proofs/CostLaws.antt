-- How many bytes of each file are read, by one call after another.
use Rattle.std.proofs.Common.{◌≡◌, ◌≢◌, ◌<◌, ◌≤◌, ◌+◌, ◌∙◌, ℕ, Bool, List, [], ◌∷◌, true, false, slice_index, ap, refl, sym, arith, if◌then◌else◌, inl, inr}
use Rattle.std.proofs.lemmas.Bool.{cases_lt, false_from_ne_true}
use Rattle.parshelf.specs.Shelf.{ShelfState, ReadsAs, file_of}
use Rattle.parshelf.specs.Reads.{ReadsOnly, HandsAtMost, HandsPerFile}
use Rattle.parshelf.proofs.ReadLaws.{HandsAtMost_own, HandsAtMost_others}
use Rattle.parsalvage.specs.MagicPlaces.{salvage_limit}
use Rattle.parset.specs.RecoverySet.{SetView}
use Rattle.parwindow.specs.Index.{SliceSet, slice_set_of, has_fit_of, set_has_fit}
use Rattle.parwindow.specs.Missing.{missing_set}
use Rattle.parfind.specs.Fetched.{Place, ReadsUpTo}
use Rattle.parfind.specs.Handover.{HandsInMode, SkipsUnfit, surveyed_length}
use Rattle.parfind.specs.OnePass.{room_of}
use Rattle.parfind.specs.Places.{place_at}
use Rattle.parfind.specs.Points.{SearchState}
use Rattle.parfind.specs.declared.cursors.cursor.Cursor.{Cursor}
use Rattle.parfind.specs.declared.tracks.mode.Mode.{Mode}
use Rattle.parfind.proofs.track_laws.FetchedLaws.{hands_more}
use Rattle.parfind.proofs.survey_laws.MissingSetLaws.{any_missing}
use Rattle.parfind.proofs.search_laws.ReachLaws.{reach_adds_up}
use Rattle.parreport.specs.Contents.{ReadsCandidates}
use Rattle.parreport.specs.Costs.{HandsWithinSalvage, searched_length_of, verified_length_of}

-- ---- one file after another

-- of each file before this one, at most its limit was read, and nothing of the others
pub record HandsUntil (limit : ℕ → ℕ) (old new : ShelfState) (file : ℕ) : Type 0 where
  pub read : (k : ℕ) → k < file → slice_index new.handed k ≤ slice_index old.handed k + limit k
  pub unread : (k : ℕ) → file ≤ k → slice_index new.handed k ≡ slice_index old.handed k

pub until_all : (limit : ℕ → ℕ) (old new : ShelfState) (file : ℕ) → HandsUntil limit old new file → HandsPerFile limit old new
until_all limit old new file before = λ k. elim (cases_lt k file) [
  | inl less ↦ before.read k less
  | inr more ↦ omega (arith, before.unread k more)
]

pub until_more : (limit : ℕ → ℕ) (old now new : ShelfState) (file : ℕ) → HandsUntil limit old now file
    → HandsAtMost now new file (limit file) → HandsUntil limit old new (file + 1)
until_more limit old now new file before one = record {
  read = λ k less. elim (cases_lt k file) [
    | inl early ↦
        let other : k ≢ file = λ e. absurd (omega (arith, e)) in
        omega (arith, HandsAtMost_others now new file (limit file) one k other, before.read k early)
    | inr more ↦
        let here : k ≡ file = omega arith in
        let first = before.unread file (omega arith) in
        rw here (omega (arith, HandsAtMost_own now new file (limit file) one, first))
  ];
  unread = λ k more.
      let other : k ≢ file = λ e. absurd (omega (arith, e)) in
      let far : file ≤ k = omega arith in
      HandsAtMost_others now new file (limit file) one k other ∙ before.unread k far;
}

-- the salvages of the files before this one have read no more than they may, in any files that are
-- consistent with the reads
abbrev pub SalvagesUntil : ShelfState → ShelfState → ℕ → Type 0
SalvagesUntil old new file =
    (files : List (List ℕ)) → ReadsAs new files → HandsUntil (λ k. salvage_limit (file_of files k)) old new file

module _ (old now new : ShelfState) (file : ℕ)
    (older : (files : List (List ℕ)) → ReadsAs new files → ReadsAs now files) (before : SalvagesUntil old now file)
    (one : (files : List (List ℕ)) → ReadsAs new files → HandsAtMost now new file (salvage_limit (file_of files file))) where
  pub salvages_more : SalvagesUntil old new (file + 1)
  salvages_more files reads =
      until_more (λ k. salvage_limit (file_of files k)) old now new file (before files (older files reads)) (one files reads)

  pub salvages_stopped : HandsWithinSalvage old new
  salvages_stopped files reads = until_all (λ k. salvage_limit (file_of files k)) old new (file + 1) (salvages_more files reads)

pub salvages_all : (old new : ShelfState) (file : ℕ) → SalvagesUntil old new file → HandsWithinSalvage old new
salvages_all old new file before files reads = until_all (λ k. salvage_limit (file_of files k)) old new file (before files reads)

-- ---- a search from a cursor on

pub lengths_same : (s t : ShelfState) → ReadsOnly s t → t.lengths ≡ s.lengths
lengths_same s t reads = ap (λ (v : ShelfState). v.lengths) reads.counts

-- one call of a search after others
pub reads_on : (s t u : ShelfState) (p q r : Place) → t.lengths ≡ s.lengths → ReadsUpTo s t p q → ReadsUpTo t u q r → ReadsUpTo s u p r
reads_on s t u p q r same first next = hands_more s.lengths s.handed t.handed u.handed p q r first (rw same at next)

-- all calls of a search
pub reads_room : (at : Cursor) (s t : ShelfState) (p q : Place) → p ≡ place_at at → t.lengths ≡ s.lengths → ReadsUpTo s t p q
    → HandsPerFile (room_of s.lengths at) s t
reads_room at s t p q start same reads =
    let opened : SearchState = record { shelf = s; fetched = p; cursor = at } in
    let end : Cursor = record { file = q.file; offset = q.offset; slice = 0 } in
    let now : SearchState = record { shelf = t; fetched = q; cursor = end } in
    (reach_adds_up 0 opened now (now ∷ []) start (
      record {
        lengths_are = same;
        reads = reads;
        near = record { file_is = omega arith; offset_is = λ _. omega arith };
      },
      refl,
    )).room

-- all calls of a search and one more, the last
pub reads_room_on : (at : Cursor) (s t u : ShelfState) (p q r : Place) → p ≡ place_at at → t.lengths ≡ s.lengths → u.lengths ≡ t.lengths
    → ReadsUpTo s t p q → ReadsUpTo t u q r → HandsPerFile (room_of s.lengths at) s u
reads_room_on at s t u p q r start same next_same first next =
    reads_room at s u p r start (next_same ∙ same) (reads_on s t u p q r same first next)

-- ---- a search for the slices of a set

once_if : (fits : Bool) (n before after : ℕ) → after ≤ before + n → (fits ≡ false → after ≤ before) → after ≤ before + (if fits then n else 0)
once_if true n before after once none = once
once_if false n before after once none = omega (arith, none refl)

-- a file into which no slice fits is one into which no slice fits that isn't found, so a clause
-- about the latter also covers the former
skips_more : (set : SliceSet) (found : List Bool) (old new : ShelfState) → SkipsUnfit (missing_set set found) old new → SkipsUnfit set old new
skips_more set found old new skips f none =
    let left : ℕ = slice_index old.lengths f in
    skips f (false_from_ne_true _ (λ fits.
    let both : true ≡ false = sym (any_missing (has_fit_of left) (λ slice. refl) set.slices found fits) ∙ none in cc))

-- a search for the slices of the set that aren't found yet
pub searched_once : (mode : Mode) (set : SetView) (index : SliceSet) (found : List Bool) (s t : ShelfState) → index ≡ slice_set_of set.size set.slices
    → HandsInMode mode s t → SkipsUnfit (missing_set index found) s t
    → HandsPerFile (λ file. searched_length_of set mode (slice_index s.lengths file)) s t
searched_once mode set index found s t is hands skips file =
    let n = slice_index s.lengths file in
    let none : set_has_fit index n ≡ false → slice_index t.handed file ≤ slice_index s.handed file
    = skips_more index found s t skips file in
    once_if (set_has_fit (slice_set_of set.size set.slices) n) (surveyed_length mode n) (slice_index s.handed file) (slice_index t.handed file)
    (hands file) (rw is at none)

-- before it, files were only read for their MD5s
pub only_checked : (mode : Mode) (set : SetView) (s t : ShelfState) → ReadsCandidates set.files s t
    → HandsPerFile (λ file. verified_length_of set mode (slice_index s.lengths file)) s t
only_checked mode set s t checked file = omega (arith, checked file)

pub checked_and_searched : (mode : Mode) (set : SetView) (s t u : ShelfState) → t.lengths ≡ s.lengths → ReadsCandidates set.files s t
    → HandsPerFile (λ file. searched_length_of set mode (slice_index t.lengths file)) t u
    → HandsPerFile (λ file. verified_length_of set mode (slice_index s.lengths file)) s u
checked_and_searched mode set s t u same checked searched file =
    let later = rw same at (searched file) in omega (arith, checked file, later)
