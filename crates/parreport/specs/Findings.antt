-- The findings on a recovery set: the state of each file in the scanned files, and which slices are
-- found.
use Rattle.std.specs.Prelude.{ℕ, ◌&&◌, ◌||◌, not, Bool, All, IsTrue, List, map, count_by, is_none}
use Rattle.std.specs.BTreeSet.{BTreeSet, contains}
use Rattle.std.specs.List.{list_any, zip, enumerate_from}
use Rattle.std.specs.Str.{bytes_eq}
use Rattle.parfield.specs.HashOrder.{id_cmp}
use Rattle.parfield.specs.declared.hash16.Hash16.{Hash16}
use Rattle.parset.specs.RecoverySet.{SetView}
use Rattle.parset.specs.declared.recovery_set.SetSlice.{SetSlice}
use Rattle.parfind.specs.Sightings.{Scan}
use Rattle.parfind.specs.Surveys.{is_sighted}
use Rattle.parfind.specs.declared.tracks.mode.Mode.{Mode}
use Rattle.parreport.specs.SetSearch.{set_sought_of}
use Rattle.parreport.specs.States.{NamedFile, is_intact, state_of}
use Rattle.parreport.specs.declared.states.findings.Findings.{Findings}

-- whether the file of this ID is complete or renamed
abbrev pub is_in_intact_file : SetView → List NamedFile → Hash16 → Bool
is_in_intact_file set scanned id =
    list_any (λ file. bytes_eq file.id.0 id.0 && is_intact (state_of scanned file)) set.files

-- the search for the slices of a set in these contents
abbrev pub set_scan_of : SetView → Mode → List (List ℕ) → Scan
set_scan_of set mode contents = record { sought = set_sought_of set mode; contents = contents }

-- the search for the slices of a set in scanned files
abbrev pub named_scan_of : SetView → Mode → List NamedFile → Scan
named_scan_of set mode scanned = set_scan_of set mode (map (λ one. one.content) scanned)

-- whether a slice, given its number, is found: its file is complete or renamed, or it has a
-- sighting
abbrev pub is_found : SetView → Mode → List NamedFile → ℕ × SetSlice → Bool
is_found set mode scanned (n, slice) =
    is_in_intact_file set scanned slice.id || is_sighted (named_scan_of set mode scanned) n

-- whether the file of a slice is one of these, given by their IDs
abbrev pub is_in_whole_file : BTreeSet Hash16 → SetSlice → Bool
is_in_whole_file whole slice = contains id_cmp whole slice.id

-- whether no search is needed for a slice: its file is one of these, or its checksums aren't known
abbrev pub needs_no_search : BTreeSet Hash16 → SetSlice → Bool
needs_no_search whole slice = is_in_whole_file whole slice || is_none slice.sums

-- the findings on the set in the scanned files
abbrev pub findings_of : SetView → Mode → List NamedFile → Findings
findings_of set mode scanned = record {
  states = map (state_of scanned) set.files;
  found = map (is_found set mode scanned) (enumerate_from 0 set.slices);
}

-- no slice needs a search: each is in a complete or renamed file, or its checksums aren't known
abbrev pub NeedsNoSearch : SetView → List NamedFile → Type 0
NeedsNoSearch set scanned =
    All (λ slice. IsTrue (is_in_intact_file set scanned slice.id || is_none slice.sums)) set.slices

-- how many slices are not found
abbrev pub need_of : List Bool → ℕ
need_of found = count_by not found

-- how many slices of the file of this ID are found
unfoldable pub found_count_of : List SetSlice → List Bool → Hash16 → ℕ
found_count_of slices found id =
    count_by (λ pair. bytes_eq pair.0.id.0 id.0 && pair.1) (zip slices found)
