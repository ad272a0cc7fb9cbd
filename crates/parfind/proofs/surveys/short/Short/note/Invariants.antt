use Rattle.std.proofs.Common.{◌≡◌, ◌||◌, ◌<◌, ◌≤◌, ℕ}
use Rattle.parwindow.specs.Missing.{found_at}
use Rattle.parfind.specs.Expecting.{flags_of}
use Rattle.parfind.proofs.surveys.short.Short.note.Given as goal

abbrev pub invariant-loop-n : goal.invariant-loop-n
invariant-loop-n l = record {
  done : (k : ℕ) → k < l.n → found_at l.found k ≡ (found_at l.fn.found k || found_at (flags_of l.self.seen) k);
  left : (k : ℕ) → l.n ≤ k → found_at l.found k ≡ found_at l.fn.found k;
}
