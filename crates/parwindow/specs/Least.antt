-- The least number, from a first one on, that passes a test.
use Rattle.std.specs.Prelude.{ℕ, ◌<◌, ◌≤◌, Bool, IsTrue, Option, None, Some}

-- n is the least number from `first` on that passes
pub record IsLeast (test : ℕ → Bool) (first n : ℕ) : Type 0 where
  pub at_or_above : first ≤ n
  pub passes : IsTrue (test n)
  pub least : (k : ℕ) → first ≤ k → k < n → ¬ IsTrue (test k)

-- the least number from `first` on that passes; None if no number passes
abbrev pub IsLeastFrom : (ℕ → Bool) → ℕ → Option ℕ → Type 0
IsLeastFrom test first None = (k : ℕ) → first ≤ k → ¬ IsTrue (test k)
IsLeastFrom test first (Some n) = IsLeast test first n
