-- The state of each file of a recovery set in the scanned files.
use Rattle.std.specs.Prelude.{ℕ, ◌==◌, ◌&&◌, Bool, true, false, List, length, map, position, Option, Some, None, if◌then◌else◌}
use Rattle.std.specs.List.{list_any, zip}
use Rattle.std.specs.Str.{bytes_eq}
use Rattle.parfield.specs.Md5.{md5}
use Rattle.parset.specs.declared.recovery_set.SetFile.{SetFile}
use Rattle.parplan.specs.declared.command.Scanned.{Scanned}
use Rattle.parreport.specs.declared.states.contents.LengthAndMd5.{LengthAndMd5}
use Rattle.parreport.specs.declared.states.state.State.{State}
use Rattle.parreport.specs.declared.states.state.State.TheVariants.{Complete, Renamed, Damaged, Missing}

-- a scanned file: its name and its content
pub record NamedFile : Type 0 where
  pub name : List ℕ
  pub content : List ℕ

-- the scanned files, each with its content
abbrev pub named_files : List Scanned → List (List ℕ) → List NamedFile
named_files files contents =
    map (λ pair. record { name = pair.0.name; content = pair.1 }) (zip files contents)

-- the length and the MD5 of bytes
abbrev pub length_and_md5 : List ℕ → LengthAndMd5
length_and_md5 bytes = record { length = length bytes; whole = record { 0 = md5 bytes } }

-- whether these are the length and the MD5 of a file of the set
abbrev pub has_content_of : SetFile → LengthAndMd5 → Bool
has_content_of file content = content.length == file.length && bytes_eq content.whole.0 file.whole.0

-- whether a scanned file has the content of a file of the set, by length and MD5
abbrev pub is_content_of : SetFile → NamedFile → Bool
is_content_of file scanned = has_content_of file (length_and_md5 scanned.content)

-- whether one of the files has this length
abbrev pub has_length : List SetFile → ℕ → Bool
has_length files n = list_any (λ file. file.length == n) files

-- the length and the MD5 of bytes, or nothing if no file of the set has their length: the result of
-- a check
abbrev pub checked_of : List SetFile → List ℕ → Option LengthAndMd5
checked_of files bytes =
    if has_length files (length bytes) then Some (length_and_md5 bytes) else None

-- whether the result of a check shows the content of a file of the set
abbrev pub shows_content_of : SetFile → Option LengthAndMd5 → Bool
shows_content_of file None = false
shows_content_of file (Some content) = has_content_of file content

-- whether a name is the name of a file of the set
abbrev pub is_name_of : SetFile → List ℕ → Bool
is_name_of file name = bytes_eq name file.name

-- the state of a file that isn't complete, given the number of the first scanned file with its
-- content, if there is one, and whether one has its name
abbrev pub incomplete_state_of : Option ℕ → Bool → State
incomplete_state_of (Some k) has_name = Renamed k
incomplete_state_of None true = Damaged
incomplete_state_of None false = Missing

-- the state of a file of the set: complete if a scanned file has its name and content; else renamed
-- from the first that has its content; else damaged if one has its name; else missing
unfoldable pub state_of : List NamedFile → SetFile → State
state_of scanned file =
    if list_any (λ one. is_content_of file one && is_name_of file one.name) scanned then Complete
    else incomplete_state_of (position (is_content_of file) scanned)
    (list_any (λ one. is_name_of file one.name) scanned)

-- whether a scanned file has the content and the name of a file of the set, given the result of its
-- check
abbrev pub shows_both : SetFile → Scanned × Option LengthAndMd5 → Bool
shows_both file pair = shows_content_of file pair.1 && is_name_of file pair.0.name

-- the same state, given the results of the checks of the scanned files
abbrev pub checked_state_of : List Scanned → List (Option LengthAndMd5) → SetFile → State
checked_state_of files checked file =
    if list_any (shows_both file) (zip files checked) then Complete
    else incomplete_state_of (position (shows_content_of file) checked)
    (list_any (λ one. is_name_of file one.name) files)

-- whether the file is complete or renamed
abbrev pub is_intact : State → Bool
is_intact Complete = true
is_intact (Renamed k) = true
is_intact Damaged = false
is_intact Missing = false

-- whether the file is complete
abbrev pub is_complete : State → Bool
is_complete Complete = true
is_complete (Renamed k) = false
is_complete Damaged = false
is_complete Missing = false
