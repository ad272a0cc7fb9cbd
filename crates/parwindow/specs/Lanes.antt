-- Vectors of sixteen bytes.
use Rattle.std.specs.Prelude.{◌≡◌, ℕ, ◌<◌, List, length, slice_index}

-- the vector has sixteen bytes, and byte i is `lane i`
pub record HasLanes (v : List ℕ) (lane : ℕ → ℕ) : Type 0 where
  pub long : length v ≡ 16
  pub each : (i : ℕ) → i < 16 → slice_index v i ≡ lane i
