-- The report of a run: the text that it writes and its answer, given the whole contents of its
-- files, if no read, write or allocation fails.
use Rattle.std.specs.Prelude.{ℕ, List, [], map, length, Option, None, Some, Result, Ok, Err, IsErr, if◌then◌else◌}
use Rattle.parfield.specs.declared.hash16.Hash16.{Hash16}
use Rattle.parfind.specs.CursorText.{cursor_for}
use Rattle.parfind.specs.Order.{origin}
use Rattle.parfind.specs.declared.cursors.cursor.Cursor.{Cursor}
use Rattle.parfind.specs.declared.cursors.cursor_text.CursorText.{CursorText}
use Rattle.parfind.specs.declared.cursors.cursor_text.Foreign.{Foreign}
use Rattle.parreport.specs.Faults.{foreign_fault_of, set_fault_of}
use Rattle.parreport.specs.FindText.{Search, find_text, find_search_of}
use Rattle.parreport.specs.SetSearch.{has_too_many_tails, mode_of, set_sought_of}
use Rattle.parfind.specs.Sought.{Sought}
use Rattle.parfind.specs.declared.tracks.mode.Mode.{Mode}
use Rattle.parsalvage.specs.Kept.{kept_of_files}
use Rattle.parsalvage.specs.declared.kept.Kept.{Kept}
use Rattle.parset.specs.RecoverySet.{SetView, set_of}
use Rattle.parset.specs.declared.recovery_set.SetFault.{SetFault}
use Rattle.parreport.specs.Names.{list_of, names_of}
use Rattle.parreport.specs.RunFiles.{RunFiles}
use Rattle.parreport.specs.PacketsText.{packets_text}
use Rattle.parreport.specs.SetText.{set_text}
use Rattle.parreport.specs.States.{named_files}
use Rattle.parreport.specs.VerifyText.{verify_text, verify_status_of}
use Rattle.parplan.specs.declared.command.Command.{Command}
use Rattle.parplan.specs.declared.command.Command.TheVariants as command
use Rattle.parplan.specs.declared.command.Plan.{Plan}
use Rattle.parreport.specs.declared.text.find.query.Query.{Query}
use Rattle.parreport.specs.declared.faults.RunFault.{RunFault}
use Rattle.parreport.specs.declared.faults.RunFault.TheVariants as fault
use Rattle.parreport.specs.declared.status.Status.{Status}
use Rattle.parreport.specs.declared.status.Status.TheVariants.{Listed}

-- a text, and the answer after it
pub record Report : Type 0 where
  pub text : List ℕ
  pub answer : Result Status RunFault

-- the report's answer is an error; then it has no text
abbrev pub IsCause : Report → Type 0
IsCause report = IsErr report.answer

-- the report of a text that only lists
abbrev pub listed : List ℕ → Report
listed text = record { text = text; answer = Ok Listed }

-- the report over the recovery set, or the error if there is none
abbrev pub report_with_set : Result SetView SetFault → (SetView → Report) → Report
report_with_set (Ok set) report = report set
report_with_set (Err why) report = record { text = []; answer = Err (set_fault_of why) }

-- the report of `packets`
abbrev pub packets_report : Plan → List Kept → Report
packets_report plan packets = listed (packets_text plan.packets plan.set packets)

-- the report of `set`
abbrev pub set_report : Plan → SetView → Report
set_report plan set = listed (set_text plan.packets set)

-- the cursor at which a search for a set of this ID begins, in a list of files with this mark: the
-- first of all if none is given; else the given one, if it is of this set and this list
abbrev pub start_of : Hash16 → Hash16 → Option CursorText → Result Cursor Foreign
start_of set list None = Ok origin
start_of set list (Some t) = cursor_for set list t

-- the cursor at which `find` begins in scanned files of these contents
abbrev pub find_start_of : Plan → Query → List (List ℕ) → SetView → Result Cursor Foreign
find_start_of plan query scanned set =
    start_of set.id (list_of (names_of plan.scanned) (map length scanned)) query.cursor

-- the report after a search, or the error if too many short-slice lengths would be compared
abbrev pub report_after : Sought → Report → Report
report_after sought report =
    if has_too_many_tails sought then record { text = []; answer = Err fault.TooManyTails }
    else report

-- the report of a search
abbrev pub search_report : Search → Report
search_report s = report_after (set_sought_of s.set s.mode) (listed (find_text s))

-- the report of `find` from its cursor on, or the error if that isn't of the set and the list of
-- files
abbrev pub report_from : Result Cursor Foreign → (Cursor → Report) → Report
report_from (Err why) report = record { text = []; answer = Err (foreign_fault_of why) }
report_from (Ok at) report = report at

-- the report of `find`
abbrev pub find_report : Plan → Query → List (List ℕ) → SetView → Report
find_report plan query scanned set =
    report_from (find_start_of plan query scanned set)
    (λ at. search_report (find_search_of plan.scanned scanned set at query))

-- the report of `verify`
abbrev pub verify_report : Plan → ℕ → Mode → List (List ℕ) → SetView → Report
verify_report plan quiet mode scanned set =
    report_after (set_sought_of set mode) (record {
      text = verify_text quiet set mode (named_files plan.scanned scanned);
      answer = Ok (verify_status_of set mode (named_files plan.scanned scanned));
    })

-- the report of a command over a set
abbrev pub command_report : Command → Plan → List (List ℕ) → SetView → Report
command_report (command.Find limit cursor tails) plan scanned set =
    find_report plan (record { limit = limit; cursor = cursor; tails = tails }) scanned set
command_report (command.Verify quiet tails) plan scanned set =
    verify_report plan quiet (mode_of tails) scanned set
command_report _ plan scanned set = set_report plan set

-- the report of a command over the packets and the scanned files; `packets` needs no set
abbrev pub kept_report : Command → Plan → List Kept → List (List ℕ) → Report
kept_report command.Packets plan packets scanned = packets_report plan packets
kept_report asked plan packets scanned =
    report_with_set (set_of packets plan.set) (command_report asked plan scanned)

-- the report of a plan, given the contents of its packet files and its scanned files
abbrev pub report_of : Plan → RunFiles → Report
report_of plan files = kept_report plan.command plan (kept_of_files files.packets) files.scanned
