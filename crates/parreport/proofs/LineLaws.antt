-- A line that is written at once: the output if it is written whole, and if it isn't.
use Rattle.std.proofs.Common.{◌≡◌, ◌∙◌, IfErr, ℕ, List, ◌++◌, Result, Ok, Err, refl, sym, ap, subst, arith, append_assoc}
use Rattle.parshelf.specs.Shelf.{ShelfState}
use Rattle.parshelf.specs.Reads.{ReadsOnly}
use Rattle.parshelf.specs.SinkState.{SinkState, appended, refused, WritesPrefix, FailsAfterPrefix}
use Rattle.parreport.specs.Faults.{listing_of, IsSearchFault, OnScannedFault}
use Rattle.parreport.specs.FindText.{WritesLine}
use Rattle.parreport.specs.Outcomes.{Answers, TellsScanned, LeavesSink}
use Rattle.parreport.specs.Report.{listed}
use Rattle.parreport.specs.declared.faults.RunFault.{RunFault}
use Rattle.parreport.specs.declared.faults.RunFault.TheVariants as fault
use Rattle.parreport.proofs.BlockLaws.{appended_twice}

-- if the sink fails after a beginning of a part, it fails after a beginning of the text before and
-- with that part
pub RefusesFront_later : (s t u : SinkState) (a part more text : List ℕ) → t ≡ appended s a → text ≡ a ++ (part ++ more)
    → FailsAfterPrefix t u part → FailsAfterPrefix s u text
RefusesFront_later s t u a part more text first is refuses = record {
  front = a ++ refuses.front;
  rest = refuses.rest ++ more;
  whole = is ∙ (ap (λ (ys : List ℕ). a ++ (ys ++ more)) refuses.whole
      ∙ (ap (λ (ys : List ℕ). a ++ ys) (append_assoc refuses.front refuses.rest more) ∙ sym (append_assoc a refuses.front (refuses.rest ++ more))));
  after = refuses.after ∙ ap refused (appended_twice s t (appended t refuses.front) a refuses.front first refl);
}

-- a line that wasn't written whole ends the text
pub fault_text : (line text : List ℕ) (why : RunFault) (old mid new : SinkState) → WritesLine line (Err why) mid new
    → WritesPrefix old mid text → (FailsAfterPrefix mid new line → FailsAfterPrefix old new text) → Answers (listed text) (listing_of (Err why)) old new
fault_text line text fault.Write old mid new h front refuses = refuses h
fault_text line text fault.Memory old mid new h front refuses = subst (λ (s : SinkState). WritesPrefix old s text) (sym h) front
fault_text line text (fault.Read packet file cause) old mid new h front refuses = absurd h
fault_text line text (fault.Set cause) old mid new h front refuses = absurd h
fault_text line text fault.OtherSet old mid new h front refuses = absurd h
fault_text line text fault.OtherList old mid new h front refuses = absurd h
fault_text line text fault.TooManyTails old mid new h front refuses = absurd h

-- the last line of a text
pub last_text : (line text : List ℕ) (result : Result (Unit {0}) RunFault) (old mid new : SinkState) → WritesLine line result mid new
    → WritesPrefix old mid text → (new ≡ appended mid line → new ≡ appended old text)
    → (FailsAfterPrefix mid new line → FailsAfterPrefix old new text) → Answers (listed text) (listing_of result) old new
last_text line text (Ok done) old mid new h front ends refuses = (refl, ends h)
last_text line text (Err why) old mid new h front ends refuses = fault_text line text why old mid new h front refuses

-- a line that is written, or that fails, comes with no failed read
pub line_reads : (line : List ℕ) (result : Result (Unit {0}) RunFault) (old new : ShelfState) (before after : SinkState)
    → WritesLine line result before after → ReadsOnly old new → TellsScanned (listing_of result) old new
line_reads line (Ok done) old new before after h reads = reads
line_reads line (Err fault.Write) old new before after h reads = reads
line_reads line (Err fault.Memory) old new before after h reads = reads
line_reads line (Err (fault.Read packet file cause)) old new before after h reads = absurd h
line_reads line (Err (fault.Set cause)) old new before after h reads = absurd h
line_reads line (Err fault.OtherSet) old new before after h reads = absurd h
line_reads line (Err fault.OtherList) old new before after h reads = absurd h
line_reads line (Err fault.TooManyTails) old new before after h reads = absurd h

-- it comes with no failure of the sink, except its own
pub line_sink : (line : List ℕ) (result : Result (Unit {0}) RunFault) (old mid new : SinkState)
    → WritesLine line result mid new → mid.failures ≡ old.failures → LeavesSink (listing_of result) old new
line_sink line (Ok done) old mid new h same = ap (λ (s : SinkState). s.failures) h ∙ same
line_sink line (Err fault.Write) old mid new h same = omega (arith, ap (λ (s : SinkState). s.failures) h.after, same)
line_sink line (Err fault.Memory) old mid new h same = ap (λ (s : SinkState). s.failures) h ∙ same
line_sink line (Err (fault.Read packet file cause)) old mid new h same = absurd h
line_sink line (Err (fault.Set cause)) old mid new h same = absurd h
line_sink line (Err fault.OtherSet) old mid new h same = absurd h
line_sink line (Err fault.OtherList) old mid new h same = absurd h
line_sink line (Err fault.TooManyTails) old mid new h same = absurd h

-- so the clause about scanned files that could not be read holds
pub line_keeps : (Leaves : ℕ → Type 0) (line : List ℕ) (result : Result (Unit {0}) RunFault) (mid new : SinkState)
    → WritesLine line result mid new → IfErr result (OnScannedFault Leaves)
line_keeps Leaves line (Ok done) mid new h = tt
line_keeps Leaves line (Err fault.Write) mid new h = tt
line_keeps Leaves line (Err fault.Memory) mid new h = tt
line_keeps Leaves line (Err (fault.Read packet file cause)) mid new h = absurd h
line_keeps Leaves line (Err (fault.Set cause)) mid new h = absurd h
line_keeps Leaves line (Err fault.OtherSet) mid new h = absurd h
line_keeps Leaves line (Err fault.OtherList) mid new h = absurd h
line_keeps Leaves line (Err fault.TooManyTails) mid new h = absurd h

-- its error is one that a search may have
pub line_fault : (line : List ℕ) (result : Result (Unit {0}) RunFault) (mid new : SinkState) → WritesLine line result mid new
    → IfErr result IsSearchFault
line_fault line (Ok done) mid new h = tt
line_fault line (Err fault.Write) mid new h = tt
line_fault line (Err fault.Memory) mid new h = tt
line_fault line (Err (fault.Read packet file cause)) mid new h = absurd h
line_fault line (Err (fault.Set cause)) mid new h = absurd h
line_fault line (Err fault.OtherSet) mid new h = absurd h
line_fault line (Err fault.OtherList) mid new h = absurd h
line_fault line (Err fault.TooManyTails) mid new h = absurd h
