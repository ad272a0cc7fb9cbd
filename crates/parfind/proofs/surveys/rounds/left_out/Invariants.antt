use Rattle.std.proofs.Common.{◌≡◌, ◌||◌, ◌<◌, ℕ, length}
use Rattle.parwindow.specs.Missing.{found_at}
use Rattle.parfind.specs.Rounds.{leaves_out}
use Rattle.parfind.proofs.surveys.rounds.left_out.Given as goal

abbrev pub invariant-loop-n : goal.invariant-loop-n
invariant-loop-n l = record {
  each : length l.lost.items ≡ l.n;
  lost : (k : ℕ) → k < l.n → found_at l.lost.items k ≡ (found_at l.found k || leaves_out l.index l.short k);
}
