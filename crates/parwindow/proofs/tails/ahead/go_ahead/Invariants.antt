use Rattle.std.proofs.Common.{◌≡◌, ℕ, ◌≤◌, List, get_or}
use Rattle.std.specs.Prelude.{All}
use Rattle.parwindow.specs.Ahead.{IsAhead}
use Rattle.parwindow.specs.Tails.{tail_lengths_of, IsTail}
use Rattle.parwindow.specs.declared.tails.tail.Tail.{Tail}
use Rattle.parwindow.proofs.tail_laws.PushTailsLaws.{MovedSoFar}
use Rattle.parwindow.proofs.tails.ahead.go_ahead.Given as goal

abbrev pub invariant-loop-k : goal.invariant-loop-k
invariant-loop-k l = record {
  lengths : tail_lengths_of l.tails ≡ tail_lengths_of l.fn.tails;
  rest : (j : ℕ) (d : Tail) → l.k ≤ j → get_or l.tails j d ≡ get_or l.fn.tails j d;
  each : (size : ℕ) (before after : List ℕ) → All (IsTail size before) l.fn.tails
      → All (IsAhead after) l.fn.tails → MovedSoFar size before after l.tails l.k;
}
