use Rattle.std.proofs.Common.{◌≡◌, take, position}
use Rattle.parset.specs.declared.recovery_set.SetFile.{SetFile}
use Rattle.parreport.specs.States.{shows_content_of}
use Rattle.parreport.specs.Lookups.{first_at}
use Rattle.parreport.proofs.states.lookups.firsts_of.Given as goal

-- the numbers of the first files with each content, among the files so far
abbrev pub invariant-loop-number : goal.invariant-loop-number
invariant-loop-number l =
    (file : SetFile) → first_at l.firsts file ≡ position (shows_content_of file) (take l.number l.contents)
