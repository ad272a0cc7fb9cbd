use Rattle.std.proofs.Common.{◌≡◌, ℕ, ◌<◌, ◌≤◌, get_or, length}
use Rattle.std.specs.Prelude.{All}
use Rattle.parwindow.specs.Ahead.{window_bytes, HasPassed}
use Rattle.parwindow.specs.Tails.{tail_lengths_of, IsTail}
use Rattle.parwindow.specs.declared.tails.tail.Tail.{Tail}
use Rattle.parwindow.proofs.tails.ahead.look_ahead.Given as goal

abbrev pub invariant-loop-k : goal.invariant-loop-k
invariant-loop-k l = record {
  lengths : tail_lengths_of l.tails ≡ tail_lengths_of l.fn.tails;
  each : All (IsTail (length (window_bytes l.stream)) (window_bytes l.stream)) l.tails;
  within : l.passed ≤ l.limit;
  past : l.passed ≡ length l.stream.bytes.now → (k : ℕ) (d : Tail) → k < l.k
      → HasPassed l.index (window_bytes l.stream) l.stream.bytes.now (get_or l.tails k d);
}
