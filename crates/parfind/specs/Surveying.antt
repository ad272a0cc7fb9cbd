-- A survey on its way: what it has found, read and hashed when it is at a cursor.
use Rattle.std.specs.Prelude.{◌≡◌, ℕ, ◌+◌, ◌≤◌, ◌||◌, ◌⊎◌, Bool, true, List, length, map, Result, OnOk}
use Rattle.std.specs.List.{sum_by}
use Rattle.parshelf.specs.Shelf.{ShelfState, ReadsAs}
use Rattle.parshelf.specs.declared.shelves.reading.ReadFault.{ReadFault}
use Rattle.parfind.specs.Expecting.{ShortState, is_strict}
use Rattle.parfind.specs.Sought.{Sought}
use Rattle.parwindow.specs.Window.{WindowState}
use Rattle.parfind.specs.declared.cursors.cursor.Cursor.{Cursor}
use Rattle.parfind.specs.declared.tracks.track.Track.{Track}
use Rattle.parfind.specs.Fetched.{Place, ReadsUpTo}
use Rattle.parfind.specs.Tracks.{fetched_of}
use Rattle.parfind.specs.Handover.{SkipsUnfit}
use Rattle.parfind.specs.Marks.{missing_at}
use Rattle.parfind.specs.Order.{origin}
use Rattle.parfind.specs.Places.{cursor_at, places_between}
use Rattle.parfind.specs.OnePass.{IsNear}
use Rattle.parfind.specs.Sightings.{Scan}
use Rattle.parfind.specs.Steps.{scan_of}
use Rattle.parfind.specs.Surveys.{is_sighted_before, AreAllSettled, AllSightedBy}
use Rattle.parwindow.specs.Missing.{found_at, missing_set}

-- the state of a survey: its shelf and its window, a flag for each slice that says whether it is
-- found, and the window's way along a file
pub record SurveyState : Type 0 where
  pub shelf : ShelfState
  pub window : WindowState
  pub found : List Bool
  pub track : Track

-- a survey with this shelf, window, flags and track
abbrev pub survey_at : ShelfState → WindowState → List Bool → Track → SurveyState
survey_at shelf window found track =
    record { shelf = shelf; window = window; found = found; track = track }

-- the number of compared lengths, over all windows from one cursor to another, at which the window
-- has the CRC-32 of a slice that fits there and isn't found
abbrev pub missing_between : Scan → List Bool → Cursor → Cursor → ℕ
missing_between scan found c d =
    sum_by (missing_at scan found) (places_between (map length scan.contents) c d)

-- the survey has come from the beginning of all files to cursor c. The slices that it finds, the
-- place at which it stops and the digests that it takes are those in any files that are consistent
-- with the reads so far. How far it reads ahead, at which place it stops and how many digests it
-- takes is said only of a strict survey, which expects no slice anywhere
pub record Surveyed (short : ShortState) (sought : Sought) (old now : SurveyState) (c : Cursor) : Type 0 where
  pub found : (files : List (List ℕ)) → ReadsAs now.shelf files → (n : ℕ)
      → found_at now.found n ≡ (found_at old.found n || is_sighted_before (scan_of sought files) c n)
  pub kept : (n : ℕ) → found_at old.found n ≡ true → found_at now.found n ≡ true
  pub hands :
      ReadsUpTo old.shelf now.shelf (record { file = 0; offset = 0 }) (fetched_of now.track)
  pub unfit : SkipsUnfit (missing_set short.set old.found) old.shelf now.shelf
  pub near : is_strict short ≡ true → IsNear sought.set.slice_size (fetched_of now.track) c
  pub stops : is_strict short ≡ true → (files : List (List ℕ)) → ReadsAs now.shelf files → (p : Place)
      → AllSightedBy (scan_of sought files) old.found p
      → IsNear sought.set.slice_size (fetched_of now.track) (cursor_at p)
  pub digests : is_strict short ≡ true → (files : List (List ℕ)) → ReadsAs now.shelf files → now.window.digests
      ≤ old.window.digests + missing_between (scan_of sought files) old.found origin c
  pub capacity : now.window.capacity ≡ old.window.capacity

-- the survey ends at a cursor: each slice is settled there, or the cursor is after all files, or a
-- file could not be read. A strict survey reads nothing if each slice is settled at the beginning
pub record SurveyEnds
    (short : ShortState) (sought : Sought) (old new : SurveyState) (result : Result Unit ReadFault) : Type 0 where
  pub cursor : Cursor
  pub surveyed : Surveyed short sought old new cursor
  pub first : cursor.slice ≡ 0
  pub file_is : cursor.file ≡ new.track.file
  pub none : is_strict short ≡ true → AreAllSettled sought.set old.found → new.shelf ≡ old.shelf
  pub all : OnOk result
      (AreAllSettled sought.set new.found ⊎ (length old.shelf.lengths ≤ cursor.file))
