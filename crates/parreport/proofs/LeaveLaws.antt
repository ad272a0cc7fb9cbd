-- What reading many files leaves of them, one call after another.
use Rattle.std.proofs.Common.{◌≡◌, Result, Ok, Err, true, false, ap, refl, subst, sym}
use Rattle.parshelf.specs.Shelf.{ShelfState, Older}
use Rattle.parshelf.specs.Reads.{ReadsOnly}
use Rattle.parshelf.proofs.ReadLaws.{ReadsOnly-refl, ReadsOnly_more, FaultsIn_more}
use Rattle.parfind.specs.Sought.{Sought, HasFewTails}
use Rattle.parfind.specs.Surveys.{SurveyPoint, SurveyLeaves, SurveyTellsTails}
use Rattle.parfind.specs.declared.surveys.surveying.SurveyFault.{SurveyFault}
use Rattle.parfind.specs.declared.surveys.surveying.SurveyFault.TheVariants as survey_fault
use Rattle.parfind.proofs.track_laws.LaterShelfLaws.{Later, later_only, later_fault}
use Rattle.parreport.specs.Faults.{scanned_fault_of}
use Rattle.parreport.specs.Outcomes.{FaultTells, LeavesPackets, LeavesScanned, LeavesSink, TellsPackets, TellsScanned, is_packet_file_fault}
use Rattle.parshelf.specs.SinkState.{SinkState}
use Rattle.parplan.specs.declared.command.Plan.{Plan}
use Rattle.parreport.specs.declared.faults.RunFault.{RunFault}
use Rattle.parreport.specs.declared.faults.RunFault.TheVariants as fault
use Rattle.parreport.specs.declared.status.Status.{Status}

-- if nothing was read, the shelf was only read
pub ReadsOnly-same : (s t : ShelfState) → t ≡ s → ReadsOnly s t
ReadsOnly-same s t same = subst (ReadsOnly s) (sym same) (ReadsOnly-refl s)

-- a fault after other calls that only read
pub FaultTells_more : (s t u : ShelfState) (why : RunFault) → ReadsOnly s t → FaultTells t u why → FaultTells s u why
FaultTells_more s t u (fault.Read false file why) before next = FaultsIn_more s t u file why before next
FaultTells_more s t u fault.Memory before next = ReadsOnly_more s t u before next
FaultTells_more s t u (fault.Read true file why) before next = absurd next
FaultTells_more s t u (fault.Set cause) before next = absurd next
FaultTells_more s t u fault.Write before next = absurd next
FaultTells_more s t u fault.OtherSet before next = absurd next
FaultTells_more s t u fault.OtherList before next = absurd next
FaultTells_more s t u fault.TooManyTails before next = absurd next

-- whatever files are read after a fault, they were before it
pub FaultTells_older : (s t : ShelfState) (why : RunFault) → FaultTells s t why → Older s t
FaultTells_older s t (fault.Read false file why) faults = (later_fault s t file why faults).older
FaultTells_older s t fault.Memory reads = reads.older
FaultTells_older s t (fault.Read true file why) none = absurd none
FaultTells_older s t (fault.Set cause) none = absurd none
FaultTells_older s t fault.Write none = absurd none
FaultTells_older s t fault.OtherSet none = absurd none
FaultTells_older s t fault.OtherList none = absurd none
FaultTells_older s t fault.TooManyTails none = absurd none

-- it names no packet file, and is none of writing
pub FaultTells-packet : (s t : ShelfState) (why : RunFault) → FaultTells s t why → is_packet_file_fault why ≡ false
FaultTells-packet s t (fault.Read false file why) faults = refl
FaultTells-packet s t fault.Memory reads = refl
FaultTells-packet s t (fault.Read true file why) none = absurd none
FaultTells-packet s t (fault.Set cause) none = refl
FaultTells-packet s t fault.Write none = refl
FaultTells-packet s t fault.OtherSet none = refl
FaultTells-packet s t fault.OtherList none = refl
FaultTells-packet s t fault.TooManyTails none = refl

pub FaultTells-sink : (s t : ShelfState) (why : RunFault) (out : SinkState) → FaultTells s t why → LeavesSink (Err why) out out
FaultTells-sink s t (fault.Read packet file why) out tells = refl
FaultTells-sink s t fault.Memory out reads = refl
FaultTells-sink s t (fault.Set cause) out none = refl
FaultTells-sink s t fault.Write out none = absurd none
FaultTells-sink s t fault.OtherSet out none = refl
FaultTells-sink s t fault.OtherList out none = refl
FaultTells-sink s t fault.TooManyTails out none = refl

-- as the answer of a run it says the same of the scanned files
pub FaultTells-scanned : (s t : ShelfState) (why : RunFault) → FaultTells s t why → TellsScanned (Err why) s t
FaultTells-scanned s t (fault.Read false file why) faults = faults
FaultTells-scanned s t fault.Memory reads = reads
FaultTells-scanned s t (fault.Read true file why) none = absurd none
FaultTells-scanned s t (fault.Set cause) none = absurd none
FaultTells-scanned s t fault.Write none = absurd none
FaultTells-scanned s t fault.OtherSet none = absurd none
FaultTells-scanned s t fault.OtherList none = absurd none
FaultTells-scanned s t fault.TooManyTails none = absurd none

-- a fault of a survey that has few short lengths to look for, as one of a run
pub FaultTells-survey : (A : Type 0) (sought : Sought) (old new : SurveyPoint) (why : SurveyFault) → HasFewTails sought
    → SurveyTellsTails {A = A} sought (Err why) → SurveyLeaves {A = A} old new (Err why) → FaultTells old.shelf new.shelf (scanned_fault_of why)
FaultTells-survey A sought old new (survey_fault.Read file why) few tells leaves = leaves
FaultTells-survey A sought old new survey_fault.Memory few tells leaves = ReadsOnly-same old.shelf new.shelf (ap (λ (p : SurveyPoint). p.shelf) leaves)
FaultTells-survey A sought old new survey_fault.TooManyTails few tells leaves = absurd (tells few)

-- ---- a run changes no length and no fixed file, and only adds reads

packets_told_later : {A : Type 0} (answer : Result A RunFault) (old new : ShelfState) → TellsPackets answer old new → Later old new
packets_told_later (Ok done) old new reads = later_only old new reads
packets_told_later (Err (fault.Read true file why)) old new faults = later_fault old new file why faults
packets_told_later (Err (fault.Read false file why)) old new reads = later_only old new reads
packets_told_later (Err (fault.Set cause)) old new reads = later_only old new reads
packets_told_later (Err fault.Write) old new reads = later_only old new reads
packets_told_later (Err fault.Memory) old new reads = later_only old new reads
packets_told_later (Err fault.OtherSet) old new reads = later_only old new reads
packets_told_later (Err fault.OtherList) old new reads = later_only old new reads
packets_told_later (Err fault.TooManyTails) old new reads = later_only old new reads

scanned_told_later : (answer : Result Status RunFault) (old new : ShelfState) → TellsScanned answer old new → Later old new
scanned_told_later (Ok status) old new reads = later_only old new reads
scanned_told_later (Err (fault.Read true file why)) old new same = later_only old new (ReadsOnly-same old new same)
scanned_told_later (Err (fault.Read false file why)) old new faults = later_fault old new file why faults
scanned_told_later (Err (fault.Set cause)) old new same = later_only old new (ReadsOnly-same old new same)
scanned_told_later (Err fault.Write) old new reads = later_only old new reads
scanned_told_later (Err fault.Memory) old new reads = later_only old new reads
scanned_told_later (Err fault.OtherSet) old new same = later_only old new (ReadsOnly-same old new same)
scanned_told_later (Err fault.OtherList) old new same = later_only old new (ReadsOnly-same old new same)
scanned_told_later (Err fault.TooManyTails) old new same = later_only old new (ReadsOnly-same old new same)

pub packets_later : {A : Type 0} (answer : Result A RunFault) (old new : ShelfState) → LeavesPackets answer old new → Later old new
packets_later answer old new leaves = packets_told_later answer old new leaves.faults

pub scanned_later : {plan : Plan} {packets : ShelfState} (answer : Result Status RunFault) (old new : ShelfState)
    → LeavesScanned plan answer packets old new → Later old new
scanned_later answer old new leaves = scanned_told_later answer old new leaves.faults
