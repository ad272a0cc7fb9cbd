-- The cost of reading: how many bytes of each file a run may read.
use Rattle.std.specs.Prelude.{ℕ, ◌+◌, List, Option, None, Some, slice_index, if◌then◌else◌}
use Rattle.parshelf.specs.Shelf.{ShelfState, ReadsAs, file_of}
use Rattle.parshelf.specs.Reads.{HandsPerFile}
use Rattle.parsalvage.specs.MagicPlaces.{salvage_limit}
use Rattle.parset.specs.RecoverySet.{SetView}
use Rattle.parwindow.specs.Index.{slice_set_of, set_has_fit}
use Rattle.parfind.specs.Order.{origin}
use Rattle.parfind.specs.OnePass.{room_of}
use Rattle.parfind.specs.Handover.{surveyed_length}
use Rattle.parfind.specs.declared.cursors.cursor.Cursor.{Cursor}
use Rattle.parfind.specs.declared.tracks.mode.Mode.{Mode}
use Rattle.parfind.specs.declared.cursors.cursor_text.CursorText.{CursorText}
use Rattle.parplan.specs.declared.command.Command.{Command}
use Rattle.parplan.specs.declared.command.Command.TheVariants as command
use Rattle.parreport.specs.Contents.{checked_length_of}
use Rattle.parreport.specs.SetSearch.{mode_of}

-- of each packet file, no more bytes are read than one salvage of it may read, in any files that
-- are consistent with the reads
abbrev pub HandsWithinSalvage : ShelfState → ShelfState → Type 0
HandsWithinSalvage old new =
    (files : List (List ℕ)) → ReadsAs new files
    → HandsPerFile (λ file. salvage_limit (file_of files file)) old new

-- the cursor at which `find` is asked to begin; the first of all if none is given
abbrev pub cursor_asked_of : Option CursorText → Cursor
cursor_asked_of None = origin
cursor_asked_of (Some text) = text.at

-- how many bytes of a file of this length a search for slices of a set may read: those that a
-- survey may read if a slice with known checksums fits into the file, else none
abbrev pub searched_length_of : SetView → Mode → ℕ → ℕ
searched_length_of set mode n =
    if set_has_fit (slice_set_of set.size set.slices) n then surveyed_length mode n else 0

-- how many bytes of a file of this length `verify` may read for a set: those that its MD5 needs,
-- and those of a search
abbrev pub verified_length_of : SetView → Mode → ℕ → ℕ
verified_length_of set mode n = checked_length_of set.files n + searched_length_of set mode n

-- how many bytes of a scanned file, given its number and the lengths of all, a command over a set
-- may read: `find` those ahead of its cursor, `verify` those above, and any other command none
abbrev pub scanned_limit_of : Command → SetView → List ℕ → ℕ → ℕ
scanned_limit_of (command.Find limit cursor tails) set lengths file =
    room_of lengths (cursor_asked_of cursor) file
scanned_limit_of (command.Verify quiet tails) set lengths file =
    verified_length_of set (mode_of tails) (slice_index lengths file)
scanned_limit_of _ set lengths file = 0

-- of each scanned file, no more bytes are read than its limit
abbrev pub ScansWithin : Command → SetView → ShelfState → ShelfState → Type 0
ScansWithin asked set old new = HandsPerFile (scanned_limit_of asked set old.lengths) old new
