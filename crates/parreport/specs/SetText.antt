-- The text of `set`.
use Rattle.std.specs.Prelude.{ℕ, List, [], ◌++◌, Option, Some, None, slice_index_or}
use Rattle.std.specs.List.{flat_map}
use Rattle.parset.specs.RecoverySet.{SetView}
use Rattle.parset.specs.declared.recovery_set.SetAside.{SetAside}
use Rattle.parreport.specs.Lines.{set_line, file_line, others_line, have_line, creator_line, aside_line}

-- the `creator` line, if there is a text for it
abbrev pub creator_lines : Option (List ℕ) → List ℕ
creator_lines None = []
creator_lines (Some text) = creator_line text

-- the lines between those of the files and those of the rejected packets
abbrev pub counts_lines : SetView → List ℕ
counts_lines set =
    others_line set.others ++ (have_line set.have ++ creator_lines set.creator)

-- the line of a rejected packet in files of these names
abbrev pub set_aside_line : List (List ℕ) → SetAside → List ℕ
set_aside_line names put_aside = aside_line (slice_index_or names put_aside.file []) put_aside

-- the lines of the set, of its files by ID, of the number of non-recovery files, of the number of
-- exponents, of the creator, and of the rejected packets
unfoldable pub set_text : List (List ℕ) → SetView → List ℕ
set_text names set =
    set_line set
    ++ (flat_map (file_line set.size) set.files
    ++ (counts_lines set
    ++ flat_map (set_aside_line names) set.aside))
