-- Facts about a command: whether it reads the scanned files, and which ones.
use Rattle.std.specs.Prelude.{◌≢◌, ℕ, Bool, true, false, List, [], map, Some, ⊤, if◌then◌else◌}
use Rattle.parplan.specs.declared.command.Command.{Command}
use Rattle.parplan.specs.declared.command.Command.TheVariants as command
use Rattle.parplan.specs.declared.command.Plan.{Plan}
use Rattle.parplan.specs.declared.command.Scanned.{Scanned}

-- the command reads the scanned files
abbrev pub reads_scanned : Command → Bool
reads_scanned command.Packets = false
reads_scanned command.Set = false
reads_scanned (command.Find limit cursor tails) = true
reads_scanned (command.Verify quiet tails) = true

-- the limit of `find`, if there is one, is not 0
abbrev pub LimitIsNotZero : Command → Type 0
LimitIsNotZero (command.Find limit cursor tails) = limit ≢ Some 0
LimitIsNotZero _ = ⊤

-- the command is `find`, which writes while it searches
abbrev pub is_find : Command → Bool
is_find (command.Find limit cursor tails) = true
is_find _ = false

-- the files that the command scans; none if it reads only packet files
abbrev pub files_to_scan_of : Plan → List Scanned
files_to_scan_of plan = if reads_scanned plan.command then plan.scanned else []

-- the paths of the files that the command scans
abbrev pub scanned_paths_of : Plan → List (List ℕ)
scanned_paths_of plan = map (λ file. file.path) (files_to_scan_of plan)
