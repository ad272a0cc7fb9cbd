-- A finder, which is an open search: its state, and what is true of it between two calls.
use Rattle.std.specs.Prelude.{◌≡◌, ◌≤◌, ◌<◌, ◌+◌, ℕ, List, Option, Result, IsTrue}
use Rattle.parshelf.specs.Shelf.{ShelfState, ReadsAs, Older}
use Rattle.parshelf.specs.declared.shelves.reading.ReadFault.{ReadFault}
use Rattle.parwindow.specs.Index.{SliceSet}
use Rattle.parwindow.specs.Window.{WindowState}
use Rattle.parfind.specs.declared.cursors.cursor.Cursor.{Cursor}
use Rattle.parfind.specs.declared.tracks.track.Track.{Track}
use Rattle.parfind.specs.Fetched.{Place, ReadsUpTo}
use Rattle.parshelf.specs.Reads.{ReadsFile}
use Rattle.parfind.specs.Tracks.{IsTied, cursor_of_track, fetched_of}
use Rattle.parfind.specs.KeptDigests.{Keeps, kept_count}
use Rattle.parfind.specs.Sought.{Sought, IsWindowFor, sought_of}
use Rattle.parfind.specs.declared.tracks.mode.Mode.{Mode}
use Rattle.parfield.specs.declared.hash16.Hash16.{Hash16}
use Rattle.parfind.specs.NextPlace.{HasFit, IsAtPlace}
use Rattle.parfind.specs.Marks.{marked_between}
use Rattle.parfind.specs.Order.{is_from}
use Rattle.parfind.specs.Places.{place_start}
use Rattle.parfind.specs.Points.{SearchState}
use Rattle.parfind.specs.Steps.{scan_of}

-- the track's window is at the cursor's place, or is being filled for it
pub record StandsAt (t : Track) (c : Cursor) : Type 0 where
  pub file_is : t.file ≡ c.file
  pub offset_is : t.window_offset ≡ c.offset

-- the state of a finder, as contracts see it
pub record FinderState : Type 0 where
  -- the cursor of the search
  pub cursor : Cursor
  -- the cursor at which it was opened
  pub opening : Cursor
  -- the place up to which files were read
  pub fetched : Place
  -- how many digests (MD5s) it took of its window
  pub digests : ℕ
  -- how it compares short slices
  pub mode : Mode
  -- its window, the window's way along a file, and the digests that are kept of the window
  pub window : WindowState
  pub track : Track
  pub kept : List (Option Hash16)

-- the state of a search: its shelf, its cursor, and the place up to which files were read
abbrev pub search_of : ShelfState → FinderState → SearchState
search_of shelf finder = record { shelf = shelf; fetched = finder.fetched; cursor = finder.cursor }

-- these slices, compared in the mode of a finder
abbrev pub sought_for : SliceSet → FinderState → Sought
sought_for set finder = sought_of set finder.mode

-- the finder searches for these slices in the files of this shelf: its window is made for them and
-- goes along a file, not past the cursor, and is at the cursor if a slice fits into what is left of
-- that file. In any files that are consistent with the reads so far, the digests that were taken
-- are at most the marks from its opening to before the window's place, and those that are kept
pub record BelongsTo (finder : FinderState) (set : SliceSet) (shelf : ShelfState) : Type 0 where
  pub made : IsWindowFor (sought_for set finder) finder.window
  pub keeps : Keeps (sought_for set finder) finder.window finder.kept
  pub kept_there : 0 < kept_count finder.kept
      → IsAtPlace shelf.lengths (cursor_of_track finder.track)
  pub tied : IsTied shelf finder.window finder.track
  pub not_ahead : finder.track.file ≤ finder.cursor.file
  pub not_past :
      finder.track.file ≡ finder.cursor.file → finder.track.window_offset ≤ finder.cursor.offset
  pub here : finder.track.file ≡ finder.cursor.file → HasFit set shelf.lengths finder.cursor
      → finder.track.window_offset ≡ finder.cursor.offset
  pub fetched_is : finder.fetched ≡ fetched_of finder.track
  pub digests_are : finder.digests ≡ finder.window.digests
  pub onward : IsTrue (is_from (place_start finder.opening) (cursor_of_track finder.track))
  pub counted : (files : List (List ℕ)) → ReadsAs shelf files → finder.window.digests
      ≤ marked_between (scan_of (sought_for set finder) files) finder.opening
      (cursor_of_track finder.track) + kept_count finder.kept

-- what a call changes in a finder and its shelf, whatever it returns: the shelf changes only by
-- reads, and an error is one of the file at the new cursor; the finder reads on from the place up
-- to which it had read, keeps its opening and its mode, and its count of digests doesn't decrease
pub record GoesAlong {A : Type 0}
    (before after : ShelfState) (old new : FinderState) (answer : Result A ReadFault) : Type 0 where
  pub shelf : ReadsFile new.cursor.file before after answer
  pub reads : ReadsUpTo before after old.fetched new.fetched
  pub opening_is : new.opening ≡ old.opening
  pub mode_is : new.mode ≡ old.mode
  pub no_fewer : old.digests ≤ new.digests

-- a finder still belongs to its shelf after others have read more of it
abbrev pub BelongsLater : Type 0
BelongsLater =
    (f : FinderState) (set : SliceSet) (old new : ShelfState) → BelongsTo f set old
    → new.lengths ≡ old.lengths → Older old new → BelongsTo f set new
