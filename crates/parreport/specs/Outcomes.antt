-- The outcome of a run: its output, and how far it has read its files.
use Rattle.std.specs.Prelude.{◌≡◌, ◌⊎◌, ℕ, ◌+◌, ◌-◌, ◌&&◌, ◌||◌, not, nat_le, Bool, true, false, List, [], length, map, IsTrue, IsOkAnd, Result, Ok, Err, ⊤}
use Rattle.parshelf.specs.Shelf.{ShelfState, ReadsAs}
use Rattle.parshelf.specs.Reads.{ReadsOnly, FaultsIn}
use Rattle.parsalvage.specs.Kept.{kept_of_files}
use Rattle.parset.specs.RecoverySet.{SetView, set_of}
use Rattle.parset.specs.declared.recovery_set.SetFault.{SetFault}
use Rattle.parreport.specs.Contents.{ReadsCandidates}
use Rattle.parreport.specs.Costs.{HandsWithinSalvage, ScansWithin}
use Rattle.parreport.specs.Findings.{NeedsNoSearch}
use Rattle.parreport.specs.States.{named_files}
use Rattle.parreport.specs.FindText.{find_search_of, WritesLinesBefore}
use Rattle.parplan.specs.Commands.{is_find, reads_scanned}
use Rattle.parreport.specs.Report.{Report, IsCause, report_of, report_with_set, find_start_of}
use Rattle.parreport.specs.RunFiles.{RunFiles}
use Rattle.parreport.specs.Blocks.{block}
use Rattle.parshelf.specs.SinkState.{SinkState, appended, WritesPrefix, FailsAfterPrefix}
use Rattle.parplan.specs.declared.command.Command.{Command}
use Rattle.parplan.specs.declared.command.Command.TheVariants as command
use Rattle.parplan.specs.declared.command.Plan.{Plan}
use Rattle.parreport.specs.declared.text.find.query.Query.{Query}
use Rattle.parreport.specs.declared.faults.RunFault.{RunFault}
use Rattle.parreport.specs.declared.faults.RunFault.TheVariants as fault
use Rattle.parreport.specs.declared.status.Status.{Status}

-- without an error, the whole text is written, and the answer is the report's. If the error is that
-- there is no set, that the cursor is of another set or of other files, or that there are too many
-- short-slice lengths, it is the report's answer, too, and nothing is written. After any other
-- error, a beginning of the text is written
abbrev pub Answers : Report → Result Status RunFault → SinkState → SinkState → Type 0
Answers report (Ok status) old new = (report.answer ≡ Ok status) × (new ≡ appended old report.text)
Answers report (Err (fault.Set why)) old new = (report.answer ≡ Err (fault.Set why)) × (new ≡ old)
Answers report (Err fault.OtherSet) old new = (report.answer ≡ Err fault.OtherSet) × (new ≡ old)
Answers report (Err fault.OtherList) old new = (report.answer ≡ Err fault.OtherList) × (new ≡ old)
Answers report (Err fault.TooManyTails) old new =
    (report.answer ≡ Err fault.TooManyTails) × (new ≡ old)
Answers report (Err fault.Write) old new = FailsAfterPrefix old new report.text
Answers report (Err _) old new = WritesPrefix old new report.text

-- if the command is `find`, this is true of its query
abbrev pub OnFind : Command → (Query → Type 0) → Type 0
OnFind (command.Find limit cursor tails) Holds =
    Holds (record { limit = limit; cursor = cursor; tails = tails })
OnFind _ Holds = ⊤

-- after a failed read of this scanned file: the command reads such files, there was a set, and for
-- `find` the whole lines of some first sightings are written, among them those of all sightings in
-- files before it
pub record ReadFaultLeaves (plan : Plan) (files : RunFiles) (file : ℕ) (old new : SinkState)
    : Type 0 where
  pub set : SetView
  pub reads : IsTrue (reads_scanned plan.command)
  pub made : set_of (kept_of_files files.packets) plan.set ≡ Ok set
  pub lines : OnFind plan.command (λ query. IsOkAnd (find_start_of plan query files.scanned set) (λ at.
      WritesLinesBefore (find_search_of plan.scanned files.scanned set at query) file old new))

-- how many bytes were written
abbrev pub written : SinkState → SinkState → ℕ
written old new = length new.bytes - length old.bytes

-- whether some text may be written before an error, after n bytes were written: before one of
-- writing; in `find`, also before one of reading scanned files or of memory; in other commands,
-- before one of memory if at least a block was written
abbrev pub may_follow_text : Command → ℕ → RunFault → Bool
may_follow_text asked n (fault.Read packet file why) = is_find asked && not packet
may_follow_text asked n fault.Write = true
may_follow_text asked n fault.Memory = is_find asked || nat_le block n
may_follow_text asked n _ = false

-- the result is the set, or the reason that every report over it has for an answer, or that memory
-- was refused
abbrev pub MakesSet : Result SetView SetFault → Result SetView RunFault → Type 0
MakesSet made (Ok set) = made ≡ Ok set
MakesSet made (Err (fault.Set why)) =
    (report : SetView → Report)
    → report_with_set made report ≡ record { text = []; answer = Err (fault.Set why) }
MakesSet made (Err fault.Memory) = ⊤
MakesSet made (Err _) = ⊥

-- the shelf of packet files after a result: if that is a read error of a packet file, exactly one
-- read of that file failed or met an unexpected end; else none did
abbrev pub TellsPackets : {A : Type 0} → Result A RunFault → ShelfState → ShelfState → Type 0
TellsPackets (Err (fault.Read true file why)) old new = FaultsIn old new file why
TellsPackets _ old new = ReadsOnly old new

-- the shelf of scanned files after a result: if that is a read error of a scanned file, exactly one
-- read of that file failed or met an unexpected end; else none did. If no search began, nothing was
-- read
abbrev pub TellsScanned : Result Status RunFault → ShelfState → ShelfState → Type 0
TellsScanned (Err (fault.Read false file why)) old new = FaultsIn old new file why
TellsScanned (Err (fault.Read true file why)) old new = new ≡ old
TellsScanned (Err (fault.Set why)) old new = new ≡ old
TellsScanned (Err fault.OtherSet) old new = new ≡ old
TellsScanned (Err fault.OtherList) old new = new ≡ old
TellsScanned (Err fault.TooManyTails) old new = new ≡ old
TellsScanned _ old new = ReadsOnly old new

-- what a fault says of scanned files that were read: a read fault is the one failure or early end of
-- the file that it names, and want of memory comes with none; no other fault comes of reading them
abbrev pub FaultTells : ShelfState → ShelfState → RunFault → Type 0
FaultTells old new (fault.Read false file why) = FaultsIn old new file why
FaultTells old new fault.Memory = ReadsOnly old new
FaultTells old new _ = ⊥

-- what a run leaves of the packet files: no more of each is handed over than one salvage may be
pub record LeavesPackets {A : Type 0} (answer : Result A RunFault) (old new : ShelfState)
    : Type 0 where
  pub faults : TellsPackets answer old new
  pub handed : HandsWithinSalvage old new

-- the shelf of scanned files after a command over this set: no more of each file is read than its
-- limit, and if no slice needs a search, `verify` reads each file only for its MD5
pub record ScansAsAsked (plan : Plan) (set : SetView) (old new : ShelfState) : Type 0 where
  pub within : ScansWithin plan.command set old new
  pub unsearched : (contents : List (List ℕ)) → ReadsAs new contents
      → NeedsNoSearch set (named_files plan.scanned contents)
      → is_find plan.command ≡ false → ReadsCandidates set.files old new

-- there was a set, that of any packet files that are consistent with the reads, and the command
-- read the scanned files for this set
pub record ScansForSet (plan : Plan) (packets old new : ShelfState) : Type 0 where
  pub set : SetView
  pub made : (files : List (List ℕ)) → ReadsAs packets files
      → set_of (kept_of_files files) plan.set ≡ Ok set
  pub scanned : ScansAsAsked plan set old new

-- the shelf of scanned files after a run: its result says what failed, and none of the files was
-- read, or they were read for a set
pub record LeavesScanned (plan : Plan) (answer : Result Status RunFault)
    (packets old new : ShelfState) : Type 0 where
  pub faults : TellsScanned answer old new
  pub handed : (new ≡ old) ⊎ ScansForSet plan packets old new

-- if the report over scanned files of these lengths is an error, nothing was read of the shelf. It
-- doesn't depend on the bytes of these files, so any may be taken
abbrev pub ReadsNoneOnCause : (List (List ℕ) → Report) → ShelfState → ShelfState → Type 0
ReadsNoneOnCause report old new =
    (scanned : List (List ℕ)) → map length scanned ≡ old.lengths → IsCause (report scanned) → new ≡ old

-- the same for the report of a plan over any packet files that are consistent with the reads
abbrev pub ReadsNoneForCause : Plan → ShelfState → ShelfState → ShelfState → Type 0
ReadsNoneForCause plan packets old new =
    (files : List (List ℕ)) → ReadsAs packets files
    → ReadsNoneOnCause (λ scanned. report_of plan (record { packets = files; scanned = scanned })) old new

-- the failures of the sink after a result: one if it is a write error, else none
abbrev pub LeavesSink : Result Status RunFault → SinkState → SinkState → Type 0
LeavesSink (Err fault.Write) old new = new.failures ≡ old.failures + 1
LeavesSink _ old new = new.failures ≡ old.failures

-- whether the error is that a packet file could not be read
abbrev pub is_packet_file_fault : RunFault → Bool
is_packet_file_fault (fault.Read packet file why) = packet
is_packet_file_fault _ = false

-- whether the error is that a file could not be read
abbrev pub is_read_fault : RunFault → Bool
is_read_fault (fault.Read packet file why) = true
is_read_fault _ = false
