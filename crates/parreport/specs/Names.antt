-- The names of scanned files, and the mark (fingerprint) of their list.
use Rattle.std.specs.Prelude.{ℕ, List, map}
use Rattle.parfield.specs.declared.hash16.Hash16.{Hash16}
use Rattle.parshelf.specs.FileList.{mark_of_list}
use Rattle.parplan.specs.declared.command.Scanned.{Scanned}

-- the names of scanned files, in their order
abbrev pub names_of : List Scanned → List (List ℕ)
names_of files = map (λ file. file.name) files

-- the mark of the list of files with these names and lengths
abbrev pub list_of : List (List ℕ) → List ℕ → Hash16
list_of names lengths = record { 0 = mark_of_list names lengths }
