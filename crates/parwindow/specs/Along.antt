-- The stream of bytes along which a running register goes. A running register takes in all
-- bytes, and none leaves it.
use Rattle.std.specs.Prelude.{ℕ, ◌≤◌, length}
use Rattle.parwindow.specs.Ahead.{stream_of}
use Rattle.parwindow.specs.Places.{registers_of}
use Rattle.parwindow.specs.Running.{RunsOver}
use Rattle.parwindow.specs.declared.tails.places.Places.{Places}

-- the registers are the running ones before each byte of the stream, in which at most 512 bytes
-- are still to be pushed
pub record AreAlong (places : Places) : Type 0 where
  pub start : ℕ
  pub few : length places.stream.bytes.now ≤ 512
  pub runs : RunsOver start (stream_of places.stream) (registers_of places.registers)
