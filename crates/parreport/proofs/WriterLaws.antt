-- Texts that go through a writer of blocks, part after part.
use Rattle.std.proofs.Common.{◌≡◌, ◌∙◌, ℕ, List, [], ◌∷◌, ◌++◌, Result, Ok, Err, refl, sym, subst, append-nil, string_bytes}
use Rattle.std.specs.List.{flat_map}
use Rattle.parshelf.specs.SinkState.{SinkState}
use Rattle.parreport.specs.Blocks.{IsBuffered, WrotePrefix}
use Rattle.parreport.specs.Writers.{Writes}
use Rattle.parreport.specs.declared.text.block_writer.BlockWriter.{BlockWriter}
use Rattle.parreport.specs.declared.faults.RunFault.{RunFault}
use Rattle.parreport.specs.declared.faults.RunFault.TheVariants.{Memory}
use Rattle.parreport.proofs.BlockLaws.{IsBuffered_all, IsBuffered_more, WrotePrefix_all}
use Rattle.parreport.proofs.ListingLaws.{StopsIn_later}

module _ {W : Type 0} (state : W → SinkState) where
  -- the text was given to the writer except for this rest of it
  pub record WritesBut (old new : BlockWriter W) (text rest : List ℕ) : Type 0 where
    pub same_sink : new.sink.ghost_name ≡ old.sink.ghost_name
    pub buffered : IsBuffered (state old.sink.now) (state new.sink.now) (string_bytes old.buffer ++ text) (string_bytes new.buffer ++ rest)

  pub writes_none : (old : BlockWriter W) (text : List ℕ) → WritesBut old old text text
  writes_none old text = record {
    same_sink = refl;
    buffered = IsBuffered_all (state old.sink.now) (string_bytes old.buffer ++ text);
  }

  module _ {A : Type 0} (old mid new : BlockWriter W) (text part rest : List ℕ) (before : WritesBut old mid text (part ++ rest)) where
    pub writes_part : (x : A) → Writes state mid new part (Ok x) → WritesBut old new text rest
    writes_part x next = record {
      same_sink = next.same_sink ∙ before.same_sink;
      buffered = IsBuffered_more (state old.sink.now) (state mid.sink.now) (state new.sink.now) (string_bytes old.buffer ++ text) (string_bytes mid.buffer)
          part rest (string_bytes new.buffer) before.buffered next.buffered;
    }

    pub stops_part : {B : Type 0} (why : RunFault) → Writes {A = A} state mid new part (Err why) → Writes {A = B} state old new text (Err why)
    stops_part why next = record {
      same_sink = next.same_sink ∙ before.same_sink;
      buffered = tt;
      stopped = StopsIn_later why (state old.sink.now) (state mid.sink.now) (state new.sink.now) (string_bytes old.buffer ++ text)
          (string_bytes mid.buffer) part rest before.buffered next.stopped;
    }

  pub writes_all : {A : Type 0} (old new : BlockWriter W) (text : List ℕ) (x : A) → WritesBut old new text [] → Writes state old new text (Ok x)
  writes_all old new text x before = record {
    same_sink = before.same_sink;
    buffered = subst (λ (ys : List ℕ). IsBuffered (state old.sink.now) (state new.sink.now) (string_bytes old.buffer ++ text) ys)
        (append-nil (string_bytes new.buffer)) before.buffered;
    stopped = tt;
  }

  before_last : (old mid : BlockWriter W) (text last : List ℕ) → WritesBut old mid text last → WritesBut old mid text (last ++ [])
  before_last old mid text last before = subst (λ (ys : List ℕ). WritesBut old mid text ys) (sym (append-nil last)) before

  -- after the last part, the clause about the whole text holds, whether that part was written or
  -- not
  pub writes_last : {A : Type 0} (old mid new : BlockWriter W) (text last : List ℕ) (result : Result A RunFault) → WritesBut old mid text last
      → Writes state mid new last result → Writes state old new text result
  writes_last old mid new text last (Ok x) before next =
      writes_all old new text x (writes_part old mid new text last [] (before_last old mid text last before) x next)
  writes_last old mid new text last (Err why) before next =
      stops_part old mid new text last [] (before_last old mid text last before) why next

  -- memory was refused before any of the text was written
  pub stops_before : {A : Type 0} (old new : BlockWriter W) (text : List ℕ) → new.sink.ghost_name ≡ old.sink.ghost_name
      → state new.sink.now ≡ state old.sink.now → Writes {A = A} state old new text (Err Memory)
  stops_before old new text same still = record {
    same_sink = same;
    buffered = tt;
    stopped = subst (λ (s : SinkState). WrotePrefix (state old.sink.now) s (string_bytes old.buffer ++ text)) (sym still)
        (WrotePrefix_all (state old.sink.now) (string_bytes old.buffer ++ text));
  }

  -- the line of the first element was written, and those of the others are left
  module _ {X : Type 0} (line : X → List ℕ) (left : List X) (x : X) (others : List X) (first : left ≡ x ∷ others)
      (old mid new : BlockWriter W) (text : List ℕ) (before : WritesBut old mid text (flat_map line left)) where
    with_first : WritesBut old mid text (line x ++ flat_map line others)
    with_first = subst (λ (xs : List X). WritesBut old mid text (flat_map line xs)) first before

    pub writes_line : {A : Type 0} (u : A) → Writes state mid new (line x) (Ok u) → WritesBut old new text (flat_map line others)
    writes_line = writes_part old mid new text (line x) (flat_map line others) with_first

    pub stops_line : {A B : Type 0} (why : RunFault) → Writes {A = A} state mid new (line x) (Err why) → Writes {A = B} state old new text (Err why)
    stops_line = stops_part old mid new text (line x) (flat_map line others) with_first
