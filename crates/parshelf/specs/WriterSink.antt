-- A sink over a writer, as contracts see it.
use Rattle.parshelf.specs.SinkState.{SinkState}
use Rattle.parshelf.specs.declared.sinks.writer.WriteSink.{WriteSink}

-- the bytes that were written, and the number of failures
abbrev pub writer_sink_state : {W : Type 0} → WriteSink W → SinkState
writer_sink_state s = record { bytes = s.written.bytes; failures = s.failures.count }

-- the writer that the sink writes to
abbrev pub writer_of : {W : Type 0} → WriteSink W → W
writer_of s = s.writer
