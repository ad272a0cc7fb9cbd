-- Runs of zeros, each twice as long as the one before.
use Rattle.std.specs.Prelude.{◌≡◌, ℕ, ◌^◌, ◌<◌, List, length, get_or}
use Rattle.parwindow.specs.declared.crcs.zero_run.ZeroRun.{ZeroRun}

-- run i has 2^i bytes, for each i below n
abbrev pub ArePowers : ℕ → List ZeroRun → Type 0
ArePowers n runs =
    (length runs ≡ n) × ((i : ℕ) (run : ZeroRun) → i < n → (get_or runs i run).len ≡ 2 ^ i)
