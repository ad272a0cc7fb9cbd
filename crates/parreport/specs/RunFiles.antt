-- The files of a run, as far as the reads of a command determine them.
use Rattle.std.specs.Prelude.{IsTrue, ℕ, List}
use Rattle.parshelf.specs.Shelf.{ShelfState, ReadsAs}
use Rattle.parplan.specs.Commands.{reads_scanned}
use Rattle.parplan.specs.declared.command.Command.{Command}

-- the contents of the packet files and the scanned files of a run
pub record RunFiles : Type 0 where
  pub packets : List (List ℕ)
  pub scanned : List (List ℕ)

-- if the command reads scanned files, these contents are consistent with the reads of them
abbrev pub ReadsAsFor : Command → ShelfState → List (List ℕ) → Type 0
ReadsAsFor asked shelf files = IsTrue (reads_scanned asked) → ReadsAs shelf files

-- these contents are consistent with the reads that a command made of the packet files and the
-- scanned files
pub record AreReadAs (asked : Command) (packet_shelf scanned_shelf : ShelfState) (files : RunFiles)
    : Type 0 where
  pub packets : ReadsAs packet_shelf files.packets
  pub scanned : ReadsAsFor asked scanned_shelf files.scanned
