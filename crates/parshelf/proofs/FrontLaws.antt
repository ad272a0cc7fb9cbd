-- Texts that are written part by part.
use Rattle.std.proofs.Common.{◌≡◌, ℕ, ◌+◌, List, ◌++◌, take, drop, ap, sym, ◌∙◌, append_assoc}
use Rattle.std.proofs.lemmas.List.{take-append-drop}
use Rattle.std.proofs.Math.Seq.{take-add}
use Rattle.parshelf.specs.SinkState.{SinkState, appended, refused, FailsAfterPrefix}

-- if the first m bytes of a text were written, and then n more, its first m + n bytes were written
pub appended_more : (s t u : SinkState) (text : List ℕ) (m n : ℕ) → t ≡ appended s (take m text) → u ≡ appended t (take n (drop m text))
    → u ≡ appended s (take (m + n) text)
appended_more s t u text m n before next =
    let joined : (s.bytes ++ take m text) ++ take n (drop m text) ≡ s.bytes ++ take (m + n) text
    = append_assoc s.bytes (take m text) (take n (drop m text)) ∙ ap (λ (ys : List ℕ). s.bytes ++ ys) (sym (take-add m n text)) in
    next ∙ (ap (λ (v : SinkState). appended v (take n (drop m text))) before ∙ ap (λ (ys : List ℕ). record s { bytes = ys }) joined)

-- if the first n bytes of a text were written and then the sink failed, it failed after a
-- beginning of the text
pub RefusesFront_after : (old now new : SinkState) (text : List ℕ) (n : ℕ) → now ≡ appended old (take n text) → new ≡ refused now
    → FailsAfterPrefix old new text
RefusesFront_after old now new text n before next = record {
  front = take n text;
  rest = drop n text;
  whole = sym (take-append-drop n text);
  after = next ∙ ap refused before;
}
