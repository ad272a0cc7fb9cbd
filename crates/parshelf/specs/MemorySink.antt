-- A sink in memory, as contracts see it.
use Rattle.std.specs.Prelude.{ℕ, ◌-◌, Bool, take, vec_len, Result, Ok, Err}
use Rattle.parshelf.specs.SinkState.{SinkState}
use Rattle.parshelf.specs.declared.sinks.memory.MemSink.{MemSink}
use Rattle.parshelf.specs.declared.sinks.sink.Failed.{Failed}

-- the bytes that were written, and the number of failures
abbrev pub memory_sink_state : MemSink → SinkState
memory_sink_state s = record { bytes = take s.used s.buffer.items; failures = s.failures.count }

-- how much a sink in memory takes
pub record SinkLimits : Type 0 where
  -- how many more bytes it takes in all
  pub room : ℕ
  -- how many bytes it takes in one call at most
  pub piece : ℕ
  -- whether, when it is full, it takes 0 bytes of a part that is not empty, and does not fail
  pub takes_zero : Bool

-- how much this sink takes
abbrev pub sink_limits_of : MemSink → SinkLimits
sink_limits_of s = record { room = vec_len s.buffer - s.used; piece = s.piece; takes_zero = s.zero }

-- the limits after a call that took n bytes, or that failed
abbrev pub limits_after : SinkLimits → Result ℕ Failed → SinkLimits
limits_after limits (Ok n) = record limits { room = limits.room - n }
limits_after limits (Err fault) = limits
