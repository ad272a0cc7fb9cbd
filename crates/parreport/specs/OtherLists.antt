-- The answer of a run to a cursor of other files, whatever the scanned files contain.
use Rattle.std.specs.Prelude.{◌≡◌, ℕ, ◌||◌, Bool, true, false, List, IsTrue, Option, None, Some, Result, Ok, Err, ⊤}
use Rattle.parfind.specs.CursorText.{is_for_list}
use Rattle.parfind.specs.declared.cursors.cursor_text.CursorText.{CursorText}
use Rattle.parplan.specs.declared.command.Plan.{Plan}
use Rattle.parreport.specs.Names.{list_of, names_of}
use Rattle.parreport.specs.Outcomes.{OnFind}
use Rattle.parreport.specs.declared.faults.RunFault.{RunFault}
use Rattle.parreport.specs.declared.faults.RunFault.TheVariants as fault
use Rattle.parreport.specs.declared.status.Status.{Status}

-- whether the cursor of a search, if there is one, is of the list of the scanned files, by their
-- names and these lengths
abbrev pub is_for_files : Plan → List ℕ → Option CursorText → Bool
is_for_files plan lengths None = true
is_for_files plan lengths (Some t) = is_for_list (list_of (names_of plan.scanned) lengths) t.list

-- a cursor of other files is reported, unless an error comes before: one of a packet file, of the
-- set or of memory; and no other cursor is reported as such
abbrev pub FitsList : Bool → Result Status RunFault → Type 0
FitsList for_files (Ok status) = IsTrue for_files
FitsList for_files (Err (fault.Read packet file why)) = IsTrue (packet || for_files)
FitsList for_files (Err fault.Write) = IsTrue for_files
FitsList for_files (Err fault.TooManyTails) = IsTrue for_files
FitsList for_files (Err fault.OtherList) = for_files ≡ false
FitsList for_files (Err _) = ⊤

-- `find` reports a cursor of other files, whatever the scanned files contain
abbrev pub TellsList : Plan → List ℕ → Result Status RunFault → Type 0
TellsList plan lengths answer =
    OnFind plan.command (λ query. FitsList (is_for_files plan lengths query.cursor) answer)
