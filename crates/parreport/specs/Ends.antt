-- The ways in which the program can end. For each: the command-line argument that it is about, the
-- exit status, and the line on standard error.
use Rattle.std.specs.Prelude.{ℕ, ◌++◌, List, [], map, Option, Some, None, Result, Ok, Err, true, false, slice_get, codes}
use Rattle.parfield.specs.Hex.{encode_lower}
use Rattle.parfield.specs.Shown.{shown}
use Rattle.parshelf.specs.declared.shelves.disk.OpenFault.{OpenFault}
use Rattle.parshelf.specs.declared.shelves.disk.OpenFault.TheVariants.{CannotOpen, Memory}
use Rattle.parplan.specs.Commands.{scanned_paths_of}
use Rattle.parplan.specs.declared.command.Plan.{Plan}
use Rattle.parplan.specs.declared.command.PlanFault.TheVariants as plan_fault
use Rattle.parreport.specs.declared.faults.RunFault.{RunFault}
use Rattle.parreport.specs.declared.faults.RunFault.TheVariants as run
use Rattle.parreport.specs.declared.status.Status.{Status}
use Rattle.parreport.specs.declared.status.Status.TheVariants as status
use Rattle.parreport.specs.declared.faults.Cause.{Cause}
use Rattle.parreport.specs.declared.faults.Cause.TheVariants as cause
use Rattle.parreport.specs.declared.ends.End.{End}
use Rattle.parreport.specs.declared.ends.End.TheVariants as end

-- the packet file or the scanned file that could not be read; none for another error
abbrev pub argument_of : Plan → RunFault → Option (List ℕ)
argument_of plan (run.Read true file why) = slice_get plan.packets file
argument_of plan (run.Read false file why) = slice_get (map (λ file. file.path) plan.scanned) file
argument_of plan _ = None

-- the end of a run, and the argument that it is about
abbrev pub run_end_of : Plan → Result Status RunFault → End × Option (List ℕ)
run_end_of plan (Ok status) = (end.Status status, None)
run_end_of plan (Err fault) = (end.Run fault, argument_of plan fault)

-- the end if the files at these paths can't all be opened, and the argument that it is about
abbrev pub open_end_of : List (List ℕ) → OpenFault → End × Option (List ℕ)
open_end_of paths (CannotOpen file) = (end.CannotOpen, slice_get paths file)
open_end_of paths Memory = (end.Memory, None)

-- both kinds of files, or the end if some can't be opened; a packet file is reported first
abbrev pub opened_of : {P Q : Type 0} → Plan → Result P OpenFault → Result Q OpenFault
    → Result (P × Q) (End × Option (List ℕ))
opened_of plan (Err why) scanned = Err (open_end_of plan.packets why)
opened_of plan (Ok packets) (Err why) = Err (open_end_of (scanned_paths_of plan) why)
opened_of plan (Ok packets) (Ok scanned) = Ok (packets, scanned)

-- the exit status of an end
abbrev pub exit_status_of : End → ℕ
exit_status_of (end.Status status.Listed) = 0
exit_status_of (end.Status status.Complete) = 0
exit_status_of (end.Status status.Possible) = 1
exit_status_of (end.Status status.Impossible) = 2
exit_status_of (end.Plan plan_fault.Memory) = 8
exit_status_of (end.Plan _) = 3
exit_status_of end.CannotOpen = 6
exit_status_of end.Memory = 8
exit_status_of (end.Run (run.Set cause)) = 4
exit_status_of (end.Run (run.Read packet file fault)) = 6
exit_status_of (end.Run run.Write) = 6
exit_status_of (end.Run run.Memory) = 8
exit_status_of (end.Run run.OtherSet) = 3
exit_status_of (end.Run run.OtherList) = 3
exit_status_of (end.Run run.TooManyTails) = 4

-- the text of the reason why there is no usable set
abbrev pub cause_text : Cause → List ℕ
cause_text cause.NoMain = codes "no main"
cause_text (cause.NoDesc id) = codes "no description of " ++ encode_lower id.0
cause_text (cause.NameTwice id) = codes "name twice " ++ encode_lower id.0
cause_text cause.TooManySlices = codes "too many slices"

-- the message of an end, about this argument; none if nothing went wrong
abbrev pub message_of : End → List ℕ → Option (List ℕ)
message_of (end.Status status) argument = None
message_of (end.Plan plan_fault.Usage) argument =
    Some (codes "usage: parv packets|set|find|verify [options] FILES")
message_of (end.Plan plan_fault.Value) argument = Some (codes "bad value")
message_of (end.Plan plan_fault.NoPacketFile) argument = Some (codes "no packet file")
message_of (end.Plan plan_fault.Memory) argument = Some (codes "out of memory")
message_of end.CannotOpen argument = Some (codes "cannot open " ++ shown argument)
message_of end.Memory argument = Some (codes "out of memory")
message_of (end.Run (run.Set cause)) argument = Some (codes "no usable set: " ++ cause_text cause)
message_of (end.Run (run.Read packet file fault)) argument =
    Some (codes "read fault in " ++ shown argument)
message_of (end.Run run.Write) argument = Some (codes "write fault")
message_of (end.Run run.Memory) argument = Some (codes "out of memory")
message_of (end.Run run.OtherSet) argument = Some (codes "cursor of another set")
message_of (end.Run run.OtherList) argument = Some (codes "cursor of other files")
message_of (end.Run run.TooManyTails) argument = Some (codes "no usable set: too many tails")

-- the line of a message, with the program's name before it; empty if there is no message
abbrev pub error_line_of : Option (List ℕ) → List ℕ
error_line_of None = []
error_line_of (Some message) = codes "parv: " ++ (message ++ codes "\n")
