-- How the program performs the words after its name: which files it opens and reads,
-- and what it reports.
use Rattle.std.specs.Prelude.{◌≡◌, ℕ, List, Option, None, IsSome, Ok, Err, IfOk, IfErr, MatchOption, MatchResult, ⊤}
use Rattle.std.specs.Global.{Vec}
use Rattle.parshelf.specs.Disk.{disk_state_of, unread_of}
use Rattle.parshelf.specs.SinkState.{SinkState}
use Rattle.parshelf.specs.declared.shelves.disk.DiskShelf.{DiskShelf}
use Rattle.parplan.specs.Commands.{scanned_paths_of}
use Rattle.parplan.specs.Plans.{plan_of}
use Rattle.parplan.specs.declared.command.Plan.{Plan}
use Rattle.parplan.specs.declared.command.PlanFault.{PlanFault}
use Rattle.parreport.specs.Ends.{opened_of}
use Rattle.parreport.specs.OpenedFiles.{RunState, TellsEnd, TellsRun}
use Rattle.parreport.specs.declared.ends.End.{End}
use Rattle.parreport.specs.declared.ends.End.TheVariants as end
use Rattle.parv.specs.declared.program.Performed.{Performed}
use Rattle.parv.specs.declared.program.Run.{Run}

-- the state that a run ends in: its packet files, its scanned files and its output
abbrev pub left_state_of : DiskShelf × DiskShelf → SinkState → RunState
left_state_of files out = record {
  packets = disk_state_of files.0;
  scanned = disk_state_of files.1;
  out = out;
}

-- the state before a run: files of the same paths and lengths, of which nothing was
-- read, and this output
abbrev pub unread_state_of : DiskShelf × DiskShelf → SinkState → RunState
unread_state_of files out = record {
  packets = unread_of (disk_state_of files.0).paths (disk_state_of files.0).lengths;
  scanned = unread_of (disk_state_of files.1).paths (disk_state_of files.1).lengths;
  out = out;
}

-- the result of a command line, with the state of its output before and after
pub record Outcome : Type 0 where
  pub performed : Performed
  pub before : SinkState
  pub after : SinkState

-- the result reports this end of a run, which may have an argument, the path of a file
abbrev pub TellsOutcome : Outcome → End × Option (List ℕ) → Type 0
TellsOutcome came end = TellsEnd end came.performed.told

-- the plan was run over these files, and the end of that run is reported
abbrev pub RunsPlan : Plan → DiskShelf × DiskShelf → Outcome → Type 0
RunsPlan plan files came =
    TellsRun plan (unread_state_of files came.before) (left_state_of files came.after) (TellsOutcome came)

-- if the end is that a file can't be opened, its path is reported
abbrev pub NamesFile : End × Option (List ℕ) → Type 0
NamesFile (end.CannotOpen, path) = IsSome path
NamesFile _ = ⊤

-- nothing was read of these files
abbrev pub AreUnread : DiskShelf → Type 0
AreUnread files =
    disk_state_of files ≡ unread_of (disk_state_of files).paths (disk_state_of files).lengths

-- a file was not opened, or memory for it was refused: this is reported, with the path of the file,
-- and nothing is read or written
pub record TellsUnopened (why : End × Option (List ℕ)) (run : Run) (came : Outcome) : Type 0 where
  pub told : TellsOutcome came why
  pub named : NamesFile why
  pub nothing_read : IfOk run.packets AreUnread
  pub nothing_written : came.after ≡ came.before

-- these files were opened at these paths, one at each, in their order
abbrev pub AreOpenedAt : List (List ℕ) → DiskShelf → Type 0
AreOpenedAt paths files = (disk_state_of files).paths ≡ paths

-- the words have a plan, which was run over its files, if they were all opened. If the packet
-- files weren't, there are no scanned files either. In any case the files that are open are
-- those at the plan's paths
pub record PerformsPlan (words : List (List ℕ)) (run : Run) (came : Outcome) : Type 0 where
  pub plan : Plan
  pub planned : plan_of words ≡ Ok plan
  pub packets_opened : IfOk run.packets (AreOpenedAt plan.packets)
  pub scanned_opened : IfOk run.scanned (AreOpenedAt (scanned_paths_of plan))
  pub packets_first : IfErr run.packets (λ why. run.scanned ≡ Err why)
  pub done : MatchResult (opened_of plan run.packets run.scanned)
      (λ files. RunsPlan plan files came)
      (λ why. TellsUnopened why run came)

-- the words have no plan because of this error, and it is reported
pub record TellsFault (words : List (List ℕ)) (answer : ℕ × Vec ℕ) : Type 0 where
  pub fault : PlanFault
  pub refused : plan_of words ≡ Err fault
  pub told : TellsEnd (end.Plan fault, None) (Ok answer)

-- there is no run: the words have no plan, which is reported unless memory was refused,
-- and nothing is written
pub record RefusesWords (words : List (List ℕ)) (came : Outcome) : Type 0 where
  pub told : IfOk came.performed.told (TellsFault words)
  pub nothing_written : came.after ≡ came.before

-- the result of these words: their plan was run, or they are refused
abbrev pub Performs : List (List ℕ) → Outcome → Type 0
Performs words came =
    MatchOption came.performed.run (RefusesWords words came) (λ files. PerformsPlan words files came)
