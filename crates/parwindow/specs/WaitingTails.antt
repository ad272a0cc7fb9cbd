-- Waiting tails: the tails of a window that doesn't look for short slices yet.
use Rattle.std.specs.Prelude.{ℕ, List}

-- waiting tails, as contracts see them: the size of their window, and their lengths
pub record WaitingState : Type 0 where
  pub size : ℕ
  pub lengths : List ℕ
