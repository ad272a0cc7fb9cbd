use Rattle.std.proofs.Common.{◌≡◌, length, take}
use Rattle.std.specs.List.{list_any, zip}
use Rattle.parset.specs.declared.recovery_set.SetFile.{SetFile}
use Rattle.parreport.specs.States.{shows_both}
use Rattle.parreport.specs.Lookups.{has_both_of}
use Rattle.parreport.proofs.states.lookups.both_of.Given as goal

-- the contents with the names of the files so far
abbrev pub invariant-loop-scanned : goal.invariant-loop-scanned
invariant-loop-scanned l =
    (file : SetFile) → has_both_of l.both file ≡ list_any (shows_both file) (take (length l.yielded) (zip l.files l.contents))
