use Rattle.std.proofs.Common.{◌≡◌, ℕ, ◌^◌, ◌<◌, get_or, length}
use Rattle.parwindow.proofs.crcs.zero_run.ZeroRun.empty.Given as goal

abbrev pub invariant-loop-i : goal.invariant-loop-i
invariant-loop-i l = (length l.columns ≡ 32) × ((k : ℕ) → k < l.i → get_or l.columns k 0 ≡ 2 ^ k)
