-- A running register over the bytes of a window: it takes in all bytes, and none leaves it.
use Rattle.std.specs.Prelude.{◌≡◌, ℕ, ◌<◌, List, fold, length, slice_index, take}
use Rattle.parwindow.specs.Crc32.{register_after}
use Rattle.parwindow.specs.declared.tails.running.Running.{Running}

-- the running register after the first k bytes
abbrev pub run_register : ℕ → List ℕ → ℕ → ℕ
run_register start bytes k = fold register_after start (take k bytes)

-- `registers` has the running register before each of the bytes; the first one is `start`
pub record RunsOver (start : ℕ) (bytes registers : List ℕ) : Type 0 where
  pub long : length registers ≡ length bytes
  pub each : (k : ℕ) → k < length bytes → slice_index registers k ≡ run_register start bytes k

-- `run` has the running register before each byte of a window of this size and content, and the
-- one after all of them
pub record IsRun (size : ℕ) (content : List ℕ) (run : Running) : Type 0 where
  pub start : ℕ
  pub capacity : run.before.capacity ≡ size
  pub before : RunsOver start content run.before.items
  pub last : run.last ≡ fold register_after start content
