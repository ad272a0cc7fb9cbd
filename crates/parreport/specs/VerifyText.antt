-- The text and the status of `verify`.
use Rattle.std.specs.Prelude.{ℕ, ◌==◌, ◌++◌, nat_lt, nat_le, List, [], map, slice_index_or, codes, if◌then◌else◌}
use Rattle.std.specs.Fmt.{decimal}
use Rattle.std.specs.List.{flat_map, list_all, zip}
use Rattle.parfield.specs.Shown.{shown}
use Rattle.parfield.specs.declared.hash16.Hash16.{Hash16}
use Rattle.parset.specs.RecoverySet.{SetView}
use Rattle.parfind.specs.declared.tracks.mode.Mode.{Mode}
use Rattle.parset.specs.Slices.{slice_count}
use Rattle.parset.specs.declared.recovery_set.SetFile.{SetFile}
use Rattle.parreport.specs.Lines.{set_line}
use Rattle.parreport.specs.States.{NamedFile, is_complete}
use Rattle.parreport.specs.Findings.{findings_of, need_of, found_count_of}
use Rattle.parreport.specs.declared.states.findings.Findings.{Findings}
use Rattle.parreport.specs.declared.states.state.State.{State}
use Rattle.parreport.specs.declared.states.state.State.TheVariants as state
use Rattle.parreport.specs.declared.status.Status.{Status}
use Rattle.parreport.specs.declared.status.Status.TheVariants as status

-- `complete <name>`
unfoldable pub complete_line : List ℕ → List ℕ
complete_line name = codes "complete " ++ (shown name ++ codes "\n")

-- `renamed <name> from <scanned file>`
unfoldable pub renamed_line : List ℕ → List ℕ → List ℕ
renamed_line name other =
    codes "renamed " ++ (shown name ++ (codes " from " ++ (shown other ++ codes "\n")))

-- `damaged <name> <k>/<n>`: k of n slices are found
unfoldable pub damaged_line : List ℕ → ℕ → ℕ → List ℕ
damaged_line name k n =
    codes "damaged " ++ (shown name ++ (codes " " ++ (decimal k ++ (codes "/" ++ (decimal n
    ++ codes "\n")))))

-- `missing <name> <k>/<n>`: k of n slices are found
unfoldable pub missing_line : List ℕ → ℕ → ℕ → List ℕ
missing_line name k n =
    codes "missing " ++ (shown name ++ (codes " " ++ (decimal k ++ (codes "/" ++ (decimal n
    ++ codes "\n")))))

-- the line of a file in this state, of whose n slices k are found; `names` are those of the scanned
-- files
abbrev pub state_line : List (List ℕ) → List ℕ → ℕ → ℕ → State → List ℕ
state_line names name k n state.Complete = complete_line name
state_line names name k n (state.Renamed file) = renamed_line name (slice_index_or names file [])
state_line names name k n state.Damaged = damaged_line name k n
state_line names name k n state.Missing = missing_line name k n

-- the line of a file of the set in its state, given how many slices of each file are found, by ID
abbrev pub counted_line : ℕ → List (List ℕ) → (Hash16 → ℕ) → SetFile × State → List ℕ
counted_line size names count_of (file, kind) =
    state_line names file.name (count_of file.id) (slice_count size file.length) kind

-- `need <x> have <y>`
unfoldable pub need_line : ℕ → ℕ → List ℕ
need_line need have =
    codes "need " ++ (decimal need ++ (codes " have " ++ (decimal have ++ codes "\n")))

-- the word of a status; `listed` is never written
abbrev pub status_word : Status → List ℕ
status_word status.Listed = codes "listed"
status_word status.Complete = codes "complete"
status_word status.Possible = codes "possible"
status_word status.Impossible = codes "impossible"

-- `result <word>`
unfoldable pub result_line : Status → List ℕ
result_line answer = codes "result " ++ (status_word answer ++ codes "\n")

-- the status: complete if every file is; else possible if no more slices are needed than there are
-- recovery slices with different exponents; else impossible
abbrev pub status_from : List State → ℕ → ℕ → Status
status_from states need have =
    if list_all is_complete states then status.Complete
    else if nat_le need have then status.Possible
    else status.Impossible

-- the status that the findings give
abbrev pub status_of : SetView → Findings → Status
status_of set findings = status_from findings.states (need_of findings.found) set.have

-- the line of the set, and one for each file, by ID
unfoldable pub states_text : SetView → List (List ℕ) → Findings → List ℕ
states_text set names findings =
    set_line set
    ++ flat_map (counted_line set.size names (found_count_of set.slices findings.found))
    (zip set.files findings.states)

-- how many slices are needed and there, and the result
unfoldable pub result_text : ℕ → ℕ → Status → List ℕ
result_text need have answer = need_line need have ++ result_line answer

-- all lines with `quiet` 0, the last two with 1, else none
unfoldable pub findings_text : ℕ → SetView → List (List ℕ) → Findings → List ℕ
findings_text quiet set names findings =
    (if quiet == 0 then states_text set names findings else [])
    ++ (if nat_lt quiet 2
    then result_text (need_of findings.found) set.have (status_of set findings) else [])

-- the text of `verify` over scanned files
abbrev pub verify_text : ℕ → SetView → Mode → List NamedFile → List ℕ
verify_text quiet set mode scanned =
    findings_text quiet set (map (λ file. file.name) scanned) (findings_of set mode scanned)

-- the status of `verify` over scanned files
abbrev pub verify_status_of : SetView → Mode → List NamedFile → Status
verify_status_of set mode scanned = status_of set (findings_of set mode scanned)
