-- Texts that are written in blocks, part after part.
use Rattle.std.proofs.Common.{◌≡◌, ℕ, ◌+◌, ◌<◌, ◌≤◌, List, [], ◌++◌, length, ap, refl, sym, ◌∙◌, subst, arith, append_assoc, append-nil, length-append}
use Rattle.parreport.specs.Blocks.{block, IsBuffered, WrotePrefix}
use Rattle.parshelf.specs.SinkState.{SinkState, appended, refused, WritesPrefix, FailsAfterPrefix}

pub appended_twice : (s t u : SinkState) (a b : List ℕ) → t ≡ appended s a → u ≡ appended t b → u ≡ appended s (a ++ b)
appended_twice s t u a b first second =
    second ∙ (ap (λ (v : SinkState). appended v b) first ∙ ap (λ (ys : List ℕ). record s { bytes = ys }) (append_assoc s.bytes a b))

-- before anything is written, all of the text waits
pub IsBuffered_all : (s : SinkState) (text : List ℕ) → IsBuffered s s text text
IsBuffered_all s text = record {
  written = [];
  whole = refl;
  after = sym (ap (λ (ys : List ℕ). record s { bytes = ys }) (append-nil s.bytes));
  blocks = λ _. refl;
}

-- after a text of at least a block was written whole, no byte waits
pub IsBuffered_written : (a b : SinkState) (text : List ℕ) → b ≡ appended a text → block ≤ length text → IsBuffered a b text []
IsBuffered_written a b text after long = record {
  written = text;
  whole = sym (append-nil text);
  after = after;
  blocks = λ few. absurd (omega (arith, few, long));
}

pub WrotePrefix_all : (s : SinkState) (text : List ℕ) → WrotePrefix s s text
WrotePrefix_all s text = record {
  waiting = text;
  buffered = IsBuffered_all s text;
}

-- if the next part is only appended to the bytes that wait, the rest of the text follows them
pub IsBuffered_pushed : (a b : SinkState) (text waiting part rest next : List ℕ) → IsBuffered a b text (waiting ++ (part ++ rest)) → next ≡ waiting ++ part
    → IsBuffered a b text (next ++ rest)
IsBuffered_pushed a b text waiting part rest next before is =
    subst (λ (ys : List ℕ). IsBuffered a b text ys) (sym (append_assoc waiting part rest) ∙ ap (λ (ys : List ℕ). ys ++ rest) (sym is)) before

-- if the bytes that waited and the next part were given to the sink as far as possible, the rest of
-- the text follows the bytes that wait now
pub IsBuffered_more : (a b c : SinkState) (text waiting part rest next : List ℕ) → IsBuffered a b text (waiting ++ (part ++ rest)) → IsBuffered b c (waiting ++ part) next
    → IsBuffered a c text (next ++ rest)
IsBuffered_more a b c text waiting part rest next before taken = record {
  written = before.written ++ taken.written;
  whole = before.whole
      ∙ (ap (λ (ys : List ℕ). before.written ++ ys) (sym (append_assoc waiting part rest) ∙ (ap (λ (ys : List ℕ). ys ++ rest) taken.whole
      ∙ append_assoc taken.written next rest)) ∙ sym (append_assoc before.written taken.written (next ++ rest)));
  after = appended_twice a b c before.written taken.written before.after taken.after;
  blocks = λ few.
      let sum : length (before.written ++ taken.written) ≡ length before.written + length taken.written = length-append before.written taken.written in
      let none : before.written ≡ [] = before.blocks (omega (arith, few, sum)) in
      let nothing : taken.written ≡ [] = taken.blocks (omega (arith, few, sum)) in
      ap (λ (ys : List ℕ). ys ++ taken.written) none ∙ nothing;
}

-- if the sink failed in the bytes that waited and the next part, it failed after a beginning of the
-- whole text
pub IsBuffered_refused : (a b c : SinkState) (text waiting part rest : List ℕ) → IsBuffered a b text (waiting ++ (part ++ rest)) → FailsAfterPrefix b c (waiting ++ part)
    → FailsAfterPrefix a c text
IsBuffered_refused a b c text waiting part rest before refuses = record {
  front = before.written ++ refuses.front;
  rest = refuses.rest ++ rest;
  whole = before.whole
      ∙ (ap (λ (ys : List ℕ). before.written ++ ys) (sym (append_assoc waiting part rest) ∙ (ap (λ (ys : List ℕ). ys ++ rest) refuses.whole
      ∙ append_assoc refuses.front refuses.rest rest)) ∙ sym (append_assoc before.written refuses.front (refuses.rest ++ rest)));
  after = refuses.after ∙ ap refused (appended_twice a b (appended b refuses.front) before.written refuses.front before.after refl);
}

-- after all bytes that waited were written, the whole text is
pub IsBuffered_ends : (a b c : SinkState) (text waiting : List ℕ) → IsBuffered a b text waiting → c ≡ appended b waiting → c ≡ appended a text
IsBuffered_ends a b c text waiting before taken =
    appended_twice a b c before.written waiting before.after taken ∙ ap (appended a) (sym before.whole)

-- the bytes that were written are a beginning of the text
pub WrotePrefix_front : (a b : SinkState) (text : List ℕ) → WrotePrefix a b text → WritesPrefix a b text
WrotePrefix_front a b text begins = record {
  front = begins.buffered.written;
  rest = begins.waiting;
  whole = begins.buffered.whole;
  after = begins.buffered.after;
}

-- if fewer bytes than a block were written, none were
pub WrotePrefix_silent : (a b : SinkState) (text : List ℕ) → WrotePrefix a b text → length b.bytes < length a.bytes + block → b ≡ a
WrotePrefix_silent a b text begins few =
    let sum : length (a.bytes ++ begins.buffered.written) ≡ length a.bytes + length begins.buffered.written = length-append a.bytes begins.buffered.written in
    let now : length b.bytes ≡ length (a.bytes ++ begins.buffered.written) = ap (λ (s : SinkState). length s.bytes) begins.buffered.after in
    let none : begins.buffered.written ≡ [] = begins.buffered.blocks (omega (arith, few, sum, now)) in
    begins.buffered.after ∙ (ap (appended a) none ∙ ap (λ (ys : List ℕ). record a { bytes = ys }) (append-nil a.bytes))
