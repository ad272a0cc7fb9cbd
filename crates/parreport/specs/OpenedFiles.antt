-- The end of the program after it tried to open the files of a plan.
use Rattle.std.specs.Prelude.{◌≡◌, ℕ, List, [], Option, IsSome, Result, IfErr, MatchResult, false, unwrap_or}
use Rattle.std.specs.Global.{Vec}
use Rattle.std.specs.declared.alloc.AllocError.{AllocError}
use Rattle.parshelf.specs.Shelf.{ShelfState}
use Rattle.parplan.specs.Commands.{reads_scanned}
use Rattle.parreport.specs.RunFiles.{RunFiles, AreReadAs}
use Rattle.parreport.specs.Ends.{run_end_of, exit_status_of, message_of, error_line_of}
use Rattle.parreport.specs.Faults.{OnScannedFault}
use Rattle.parreport.specs.Outcomes.{Answers, ReadFaultLeaves, LeavesPackets, LeavesScanned, LeavesSink, ReadsNoneForCause, written, may_follow_text}
use Rattle.parreport.specs.OtherLists.{TellsList}
use Rattle.parreport.specs.Report.{report_of}
use Rattle.parshelf.specs.SinkState.{SinkState}
use Rattle.parreport.specs.declared.ends.End.{End}
use Rattle.parreport.specs.declared.status.Status.{Status}
use Rattle.parreport.specs.declared.faults.RunFault.{RunFault}
use Rattle.parplan.specs.declared.command.Plan.{Plan}

-- the exit status and the line on standard error are those of this end, about this argument. If
-- memory for the line was refused, there is neither, and the end has a message: something went wrong
abbrev pub TellsEnd : End × Option (List ℕ) → Result (ℕ × Vec ℕ) AllocError → Type 0
TellsEnd (end, argument) told =
    let message = message_of end (unwrap_or argument []) in
    MatchResult told
    (λ told. (told.0 ≡ exit_status_of end) × (told.1.items ≡ error_line_of message))
    (λ _. IsSome message)

-- the files and the output of a run, as contracts see them
pub record RunState : Type 0 where
  pub packets : ShelfState
  pub scanned : ShelfState
  pub out : SinkState

-- the answer of a run, and the text that it has written, are those of the plan over these files
pub record AnswersOver (plan : Plan) (files : RunFiles) (answer : Result Status RunFault)
    (old new : SinkState) : Type 0 where
  pub text : Answers (report_of plan files) answer old new
  pub lines : IfErr answer (OnScannedFault (λ file. ReadFaultLeaves plan files file old new))

-- a run of the plan; `old` and `new` are its files and its output before it and after it. Its end
-- passes the test `tells`, and its text and its answer are those of any files that are consistent
-- with the reads
pub record TellsRun (plan : Plan) (old new : RunState) (tells : End × Option (List ℕ) → Type 0)
    : Type 0 where
  pub answer : Result Status RunFault
  pub told : tells (run_end_of plan answer)
  pub report : (files : RunFiles) → AreReadAs plan.command new.packets new.scanned files
      → AnswersOver plan files answer old.out new.out
  pub nothing_written : IfErr answer (λ fault.
      may_follow_text plan.command (written old.out new.out) fault ≡ false → new.out ≡ old.out)
  pub packets_read : LeavesPackets answer old.packets new.packets
  pub scanned_read : LeavesScanned plan answer new.packets old.scanned new.scanned
  pub cause : ReadsNoneForCause plan new.packets old.scanned new.scanned
  pub sink : LeavesSink answer old.out new.out
  pub list : TellsList plan old.scanned.lengths answer
  pub untouched : reads_scanned plan.command ≡ false → new.scanned ≡ old.scanned
