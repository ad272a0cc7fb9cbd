-- A text that is written in blocks: a beginning of it was written, and the rest of it waits in a
-- buffer.
use Rattle.std.specs.Prelude.{◌≡◌, ℕ, ◌<◌, List, [], ◌++◌, length}
use Rattle.parshelf.specs.SinkState.{SinkState, appended, FailsAfterPrefix}
use Rattle.parreport.specs.declared.faults.RunFault.{RunFault}
use Rattle.parreport.specs.declared.faults.RunFault.TheVariants as fault

-- the size of a block: fewer bytes wait, except at the end of a text
abbrev pub block : ℕ
block = 65_536

-- some first bytes of a text were written, none if they are fewer than a block; the others wait
pub record IsBuffered (old new : SinkState) (text waiting : List ℕ) : Type 0 where
  pub written : List ℕ
  pub whole : text ≡ written ++ waiting
  pub after : new ≡ appended old written
  pub blocks : length written < block → written ≡ []

-- a beginning of the text was written in the same way, whichever bytes wait
pub record WrotePrefix (old new : SinkState) (text : List ℕ) : Type 0 where
  pub waiting : List ℕ
  pub buffered : IsBuffered old new text waiting

-- the error within a text: the sink failed after a beginning of it, or memory was refused after
-- blocks of it; no other error stops it
abbrev pub StopsIn : RunFault → SinkState → SinkState → List ℕ → Type 0
StopsIn fault.Write old new text = FailsAfterPrefix old new text
StopsIn fault.Memory old new text = WrotePrefix old new text
StopsIn _ old new text = ⊥
