-- The errors of a run, and how other errors become one of them.
use Rattle.std.specs.Prelude.{◌≡◌, ℕ, Result, Ok, Err, ⊤, true, false}
use Rattle.parfind.specs.declared.cursors.cursor_text.Foreign.{Foreign}
use Rattle.parfind.specs.declared.cursors.cursor_text.Foreign.TheVariants as foreign
use Rattle.parfind.specs.declared.surveys.surveying.SurveyFault.{SurveyFault}
use Rattle.parfind.specs.declared.surveys.surveying.SurveyFault.TheVariants as survey_fault
use Rattle.parfind.specs.declared.searches.start_fault.StartFault.{StartFault}
use Rattle.parfind.specs.declared.searches.start_fault.StartFault.TheVariants as start_fault
use Rattle.parset.specs.declared.recovery_set.SetFault.{SetFault}
use Rattle.parset.specs.declared.recovery_set.SetFault.TheVariants as set_fault
use Rattle.parreport.specs.declared.faults.Cause.TheVariants as cause
use Rattle.parreport.specs.declared.faults.RunFault.{RunFault}
use Rattle.parreport.specs.declared.faults.RunFault.TheVariants as fault
use Rattle.parreport.specs.declared.status.Status.{Status}
use Rattle.parreport.specs.declared.status.Status.TheVariants.{Listed}

-- the error of a run for a reason why there is no set
abbrev pub set_fault_of : SetFault → RunFault
set_fault_of set_fault.NoMain = fault.Set cause.NoMain
set_fault_of (set_fault.NoDesc id) = fault.Set (cause.NoDesc id)
set_fault_of (set_fault.NameTwice id) = fault.Set (cause.NameTwice id)
set_fault_of set_fault.TooManySlices = fault.Set cause.TooManySlices
set_fault_of set_fault.Memory = fault.Memory

-- the error of a run if a survey of the scanned files fails
abbrev pub scanned_fault_of : SurveyFault → RunFault
scanned_fault_of (survey_fault.Read file why) = fault.Read false file why
scanned_fault_of survey_fault.Memory = fault.Memory
scanned_fault_of survey_fault.TooManyTails = fault.TooManyTails

-- the error of a run if a search can't be started
abbrev pub start_fault_of : StartFault → RunFault
start_fault_of start_fault.TooManyTails = fault.TooManyTails
start_fault_of start_fault.Memory = fault.Memory

-- the error of a run if its cursor isn't one of its set and its files
abbrev pub foreign_fault_of : Foreign → RunFault
foreign_fault_of foreign.OtherSet = fault.OtherSet
foreign_fault_of foreign.OtherList = fault.OtherList

-- the error is one that reading packet files may have
abbrev pub IsPacketFault : RunFault → Type 0
IsPacketFault (fault.Read packet file why) = packet ≡ true
IsPacketFault fault.Memory = ⊤
IsPacketFault _ = ⊥

-- the error is one that a search may have: of reading scanned files, of writing, or of memory
abbrev pub IsSearchFault : RunFault → Type 0
IsSearchFault (fault.Read packet file why) = packet ≡ false
IsSearchFault fault.Write = ⊤
IsSearchFault fault.Memory = ⊤
IsSearchFault _ = ⊥

-- the error is one that a search may have, or too many short-slice lengths would be compared
abbrev pub IsFindFault : RunFault → Type 0
IsFindFault fault.TooManyTails = ⊤
IsFindFault other = IsSearchFault other

-- if the error is that a scanned file could not be read, this is true of its number
abbrev pub OnScannedFault : (ℕ → Type 0) → RunFault → Type 0
OnScannedFault Holds (fault.Read false file why) = Holds file
OnScannedFault Holds _ = ⊤

-- the result of a command that lists, as a status
abbrev pub listing_of : Result (Unit {0}) RunFault → Result Status RunFault
listing_of (Ok done) = Ok Listed
listing_of (Err why) = Err why
