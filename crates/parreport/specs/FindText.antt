-- The text of `find`, and the part of it that is written if it stops early.
use Rattle.std.specs.Prelude.{◌≡◌, ℕ, ◌-◌, ◌≤◌, List, [], ◌++◌, length, take, map, All, Option, Some, None, Result, Ok, Err, slice_get, slice_index_or}
use Rattle.std.specs.List.{flat_map}
use Rattle.parset.specs.RecoverySet.{SetView}
use Rattle.parset.specs.declared.recovery_set.SetSlice.{SetSlice}
use Rattle.parfind.specs.Order.{cursor_after}
use Rattle.parfind.specs.Sightings.{sightings_from}
use Rattle.parfind.specs.Moves.{IsBelow}
use Rattle.parfind.specs.declared.cursors.cursor.Cursor.{Cursor}
use Rattle.parfind.specs.declared.cursors.sighting.Sighting.{Sighting}
use Rattle.parfind.specs.declared.tracks.mode.Mode.{Mode}
use Rattle.parreport.specs.Findings.{set_scan_of}
use Rattle.parreport.specs.SetSearch.{mode_of}
use Rattle.parreport.specs.Names.{list_of, names_of}
use Rattle.parreport.specs.Lines.{sighting_line, end_line, cursor_line}
use Rattle.parshelf.specs.SinkState.{SinkState, appended, FailsAfterPrefix}
use Rattle.parplan.specs.declared.command.Scanned.{Scanned}
use Rattle.parreport.specs.declared.text.find.query.Query.{Query}
use Rattle.parreport.specs.declared.faults.RunFault.{RunFault}
use Rattle.parreport.specs.declared.faults.RunFault.TheVariants as fault

-- a search for the slices of a set in this mode, from a cursor on, in scanned files of these names
-- and contents
pub record Search : Type 0 where
  pub names : List (List ℕ)
  pub contents : List (List ℕ)
  pub set : SetView
  pub mode : Mode
  pub at : Cursor
  -- how many lines are asked for, if there is a limit
  pub limit : Option ℕ

-- the search that `find` makes in scanned files of these contents, from a cursor of the set on
abbrev pub find_search_of : List Scanned → List (List ℕ) → SetView → Cursor → Query → Search
find_search_of files contents set at query = record {
  names = names_of files;
  contents = contents;
  set = set;
  mode = mode_of query.tails;
  at = at;
  limit = query.limit;
}

-- the sightings (matches) of a search, from a cursor on
abbrev pub seen_from : Search → Cursor → List Sighting
seen_from s at = sightings_from (set_scan_of s.set s.mode s.contents) at

-- the line of a slice of the set that was seen in a file of this name; empty if there is no slice
abbrev pub line_of_slice : List ℕ → ℕ → Option SetSlice → List ℕ
line_of_slice name offset None = []
line_of_slice name offset (Some slice) = sighting_line name offset slice

-- the line of a sighting in files of these names
abbrev pub found_line : List (List ℕ) → SetView → Sighting → List ℕ
found_line names set x =
    line_of_slice (slice_index_or names x.file []) x.offset (slice_get set.slices x.slice)

-- the sightings that are written: all of them, or at most the limit's number from the first on
abbrev pub limited : Option ℕ → List Sighting → List Sighting
limited None xs = xs
limited (Some n) xs = take n xs

-- the line of a cursor in a search, which names the set and the list of files
abbrev pub line_of_cursor : Search → Cursor → List ℕ
line_of_cursor s at = cursor_line (record {
  set = s.set.id;
  list = Some (list_of s.names (map length s.contents));
  at = at;
})

-- the line after the last sighting that is asked for: the line of the cursor after it, or `end` if
-- there is no such sighting; `line` gives the line of each cursor
abbrev pub line_after : (Cursor → List ℕ) → Option Sighting → List ℕ
line_after line None = end_line
line_after line (Some x) = line (cursor_after x)

-- the last line: the cursor after sighting number n if the limit is n and there are n sightings,
-- else `end`
abbrev pub last_line : (Cursor → List ℕ) → Option ℕ → List Sighting → List ℕ
last_line line None xs = end_line
last_line line (Some n) xs = line_after line (slice_get xs (n - 1))

-- a line for each sighting that is written, and the last line
unfoldable pub find_text : Search → List ℕ
find_text s =
    flat_map (found_line s.names s.set) (limited s.limit (seen_from s s.at))
    ++ last_line (line_of_cursor s) s.limit (seen_from s s.at)

-- the lines of some first sightings from a cursor on were written, fewer than the limit, among them
-- those of all sightings in files before this one
pub record WritesLinesBefore (s : Search) (file : ℕ) (old new : SinkState) : Type 0 where
  pub handed : List Sighting
  pub others : List Sighting
  pub whole : seen_from s s.at ≡ handed ++ others
  pub below_limit : IsBelow (length handed) s.limit
  pub later : All (λ x. file ≤ x.file) others
  pub after : new ≡ appended old (flat_map (found_line s.names s.set) handed)

-- the line was written; or there was an error, and the sink failed after a beginning of it, or
-- memory was refused before it
abbrev pub WritesLine : List ℕ → Result (Unit {0}) RunFault → SinkState → SinkState → Type 0
WritesLine line (Ok done) old new = new ≡ appended old line
WritesLine line (Err fault.Write) old new = FailsAfterPrefix old new line
WritesLine line (Err fault.Memory) old new = new ≡ old
WritesLine line (Err _) old new = ⊥

-- the limit after one more line is written
abbrev pub limit_left : Option ℕ → Option ℕ
limit_left None = None
limit_left (Some n) = Some (n - 1)
