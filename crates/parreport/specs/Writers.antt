-- A text that is given to a writer of blocks.
use Rattle.std.specs.Prelude.{◌≡◌, ℕ, List, ◌++◌, Result, OnOk, IfErr, string_bytes}
use Rattle.parshelf.specs.SinkState.{SinkState}
use Rattle.parreport.specs.Blocks.{IsBuffered, StopsIn}
use Rattle.parreport.specs.declared.text.block_writer.BlockWriter.{BlockWriter}
use Rattle.parreport.specs.declared.faults.RunFault.{RunFault}

-- the writer keeps its sink. Without an error, the text follows the bytes that waited in the
-- writer, and all of them are written or wait; after an error, they stopped at the sink or for lack
-- of memory
pub record Writes {W A : Type 0} (state : W → SinkState) (old new : BlockWriter W) (text : List ℕ)
    (result : Result A RunFault) : Type 0 where
  pub same_sink : new.sink.ghost_name ≡ old.sink.ghost_name
  pub buffered : OnOk result (IsBuffered (state old.sink.now) (state new.sink.now)
      (string_bytes old.buffer ++ text) (string_bytes new.buffer))
  pub stopped : IfErr result (λ why. StopsIn why (state old.sink.now) (state new.sink.now)
      (string_bytes old.buffer ++ text))
