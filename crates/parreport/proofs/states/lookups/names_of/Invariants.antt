use Rattle.std.proofs.Common.{◌≡◌, take}
use Rattle.std.specs.List.{list_any}
use Rattle.parset.specs.declared.recovery_set.SetFile.{SetFile}
use Rattle.parreport.specs.States.{is_name_of}
use Rattle.parreport.specs.Lookups.{has_name_of}
use Rattle.parreport.proofs.states.lookups.names_of.Given as goal

-- the names of the files so far
abbrev pub invariant-loop-scanned : goal.invariant-loop-scanned
invariant-loop-scanned l =
    (file : SetFile) → has_name_of l.names file ≡ list_any (λ one. is_name_of file one.name) (take l.scanned-index l.files)
