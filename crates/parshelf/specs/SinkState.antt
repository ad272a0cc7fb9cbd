-- A sink, which takes the text that is written, as contracts see it.
use Rattle.std.specs.Prelude.{◌≡◌, ℕ, ◌+◌, List, [], ◌++◌}

-- the state of a sink
pub record SinkState : Type 0 where
  -- all bytes that were written to it
  pub bytes : List ℕ
  -- how often it failed, or took nothing of a part that was not empty
  pub failures : ℕ

-- the sink after these bytes were written to it
abbrev pub appended : SinkState → List ℕ → SinkState
appended s bytes = record s { bytes = s.bytes ++ bytes }

-- the sink after it failed once
abbrev pub refused : SinkState → SinkState
refused s = record s { failures = s.failures + 1 }

-- a sink that nothing was written to
abbrev pub empty_sink : SinkState
empty_sink = record { bytes = []; failures = 0 }

-- a sink took a beginning of a text
pub record WritesPrefix (old new : SinkState) (text : List ℕ) : Type 0 where
  pub front : List ℕ
  pub rest : List ℕ
  pub whole : text ≡ front ++ rest
  pub after : new ≡ appended old front

-- a sink took a beginning of a text, and then it failed once
pub record FailsAfterPrefix (old new : SinkState) (text : List ℕ) : Type 0 where
  pub front : List ℕ
  pub rest : List ℕ
  pub whole : text ≡ front ++ rest
  pub after : new ≡ refused (appended old front)
