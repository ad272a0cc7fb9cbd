-- The text of a run if scanned files could not all be read, or not searched at all; and the mark of
-- their list.
use Rattle.std.proofs.Common.{◌≡◌, ◌∙◌, ℕ, Bool, List, [], Ok, Err, true, false, ap, refl, subst, sym, append-nil, length, inl, inr}
use Rattle.std.proofs.lemmas.Bool.{cases_lt, lt-ltb, le-ltb}
use Rattle.parreport.specs.Outcomes.{Answers, FaultTells, TellsScanned}
use Rattle.parreport.specs.Report.{IsCause, Report, report_after}
use Rattle.parreport.specs.SetSearch.{has_too_many_tails, set_sought_of}
use Rattle.parset.specs.RecoverySet.{SetView}
use Rattle.parwindow.specs.Index.{SliceSet, slice_set_of}
use Rattle.parreport.specs.Faults.{start_fault_of}
use Rattle.parreport.specs.Names.{list_of}
use Rattle.parshelf.specs.FileList.{mark_of_list}
use Rattle.parshelf.specs.Shelf.{ShelfState}
use Rattle.parshelf.proofs.ReadLaws.{ReadsOnly-refl}
use Rattle.parwindow.specs.Window.{tail_limit}
use Rattle.parfind.specs.Sought.{Sought, HasFewTails, sought_of, shorter_lengths}
use Rattle.parfind.specs.declared.tracks.mode.Mode.{Mode}
use Rattle.parfield.specs.declared.hash16.Hash16.{Hash16}
use Rattle.parfind.specs.Starts.{TellsTails}
use Rattle.parfind.specs.declared.searches.start_fault.StartFault.{StartFault}
use Rattle.parfind.specs.declared.searches.start_fault.StartFault.TheVariants as start_fault
use Rattle.parreport.specs.declared.faults.RunFault.{RunFault}
use Rattle.parreport.specs.declared.faults.RunFault.TheVariants as fault
use Rattle.parreport.specs.declared.status.Status.{Status}
use Rattle.parshelf.specs.SinkState.{SinkState, WritesPrefix}

front_nil : (text : List ℕ) (s : SinkState) → WritesPrefix s s text
front_nil text s = record {
  front = [];
  rest = text;
  whole = refl;
  after = sym (ap (λ (ys : List ℕ). record s { bytes = ys }) (append-nil s.bytes));
}

-- where they were not all read before the first line, nothing is written
pub answers_before_text : (report : Report) (why : RunFault) (old new : ShelfState) (s : SinkState) → FaultTells old new why
    → Answers report (Err why) s s
answers_before_text report (fault.Read false file why) old new s tells = front_nil report.text s
answers_before_text report fault.Memory old new s tells = front_nil report.text s
answers_before_text report (fault.Read true file why) old new s none = absurd none
answers_before_text report (fault.Set cause) old new s none = absurd none
answers_before_text report fault.Write old new s none = absurd none
answers_before_text report fault.OtherSet old new s none = absurd none
answers_before_text report fault.OtherList old new s none = absurd none
answers_before_text report fault.TooManyTails old new s none = absurd none

-- ---- the number of short-slice lengths
pub few_are_few : (sought : Sought) → HasFewTails sought → has_too_many_tails sought ≡ false
few_are_few sought few = le-ltb tail_limit (length (shorter_lengths sought.mode sought.set)) few

pub many_are_many : (sought : Sought) → ¬ HasFewTails sought → has_too_many_tails sought ≡ true
many_are_many sought many = elim (cases_lt tail_limit (length (shorter_lengths sought.mode sought.set))) [
  | inl more ↦ lt-ltb tail_limit (length (shorter_lengths sought.mode sought.set)) more
  | inr few ↦ absurd (many few)
]

pub report_of_few : (sought : Sought) (report : Report) → HasFewTails sought → report_after sought report ≡ report
report_of_few sought report few = rw (few_are_few sought few) refl

-- if there are at most 256, the answer of a text with a status is no cause
pub few_no_cause : (sought : Sought) (text : List ℕ) (status : Status) → HasFewTails sought
    → ¬ IsCause (report_after sought (record { text = text; answer = Ok status }))
few_no_cause sought text status few cause =
    let report : Report = record { text = text; answer = Ok status } in
    let both : false ≡ true = subst IsCause (report_of_few sought report few) cause in cc

-- if there are too many, that is the answer, and nothing is written
pub too_many_answer : (sought : Sought) (report : Report) (s : SinkState) → has_too_many_tails sought ≡ true
    → Answers (report_after sought report) (Err fault.TooManyTails) s s
too_many_answer sought report s many = (rw many refl, refl)

-- the same if a search could not be started
answers_unstarted : (A : Type 0) (sought : Sought) (report : Report) (why : StartFault) (s : SinkState) → TellsTails {A = A} sought (Err why)
    → Answers (report_after sought report) (Err (start_fault_of why)) s s
answers_unstarted A sought report start_fault.TooManyTails s tells = too_many_answer sought report s (many_are_many sought tells)
answers_unstarted A sought report start_fault.Memory s tells = front_nil (report_after sought report).text s

-- ---- the same for the slices of a set, as an index has them
module _ (set : SetView) (mode own : Mode) (index : SliceSet) (is : index ≡ slice_set_of set.size set.slices) (same : own ≡ mode) where
  sought_is : sought_of index own ≡ set_sought_of set mode
  sought_is = ap (λ (slices : SliceSet). sought_of slices own) is ∙ ap (sought_of (slice_set_of set.size set.slices)) same

  pub few_of_set : HasFewTails (sought_of index own) → HasFewTails (set_sought_of set mode)
  few_of_set = subst HasFewTails sought_is

  pub test_of_set : (tells : Bool) → has_too_many_tails (sought_of index own) ≡ tells → has_too_many_tails (set_sought_of set mode) ≡ tells
  test_of_set tells = subst (λ (sought : Sought). has_too_many_tails sought ≡ tells) sought_is

  pub unstarted_text : (A : Type 0) (report : Report) (why : StartFault) (s : SinkState) → TellsTails {A = A} (sought_of index own) (Err why)
      → Answers (report_after (set_sought_of set mode) report) (Err (start_fault_of why)) s s
  unstarted_text A report why s tells =
      answers_unstarted A (set_sought_of set mode) report why s (subst (λ (sought : Sought). TellsTails {A = A} sought (Err why)) sought_is tells)

-- if a search could not be started, nothing is read, either
pub unstarted_scanned : (why : StartFault) (s : ShelfState) → TellsScanned (Err (start_fault_of why)) s s
unstarted_scanned start_fault.TooManyTails s = refl
unstarted_scanned start_fault.Memory s = ReadsOnly-refl s

-- ---- the mark of the list of scanned files

pub list_same : (list : Hash16) (names : List (List ℕ)) (lengths wanted : List ℕ)
    → list.0 ≡ mark_of_list names lengths → lengths ≡ wanted → list ≡ list_of names wanted
list_same list names lengths wanted is same =
    ap (λ (bytes : List ℕ). record { 0 = bytes }) (is ∙ ap (mark_of_list names) same)
