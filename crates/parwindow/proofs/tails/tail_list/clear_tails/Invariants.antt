use Rattle.std.proofs.Common.{◌≡◌, ℕ, List, []}
use Rattle.std.specs.Prelude.{All}
use Rattle.parwindow.specs.Tails.{tail_lengths_of, IsTail}
use Rattle.parwindow.proofs.tail_laws.PushTailsLaws.{MovedSoFar}
use Rattle.parwindow.proofs.tails.tail_list.clear_tails.Given as goal

abbrev pub invariant-loop-k : goal.invariant-loop-k
invariant-loop-k l =
    (tail_lengths_of l.tails ≡ tail_lengths_of l.fn.tails)
    × ((size : ℕ) (content : List ℕ) → All (IsTail size content) l.fn.tails
    → MovedSoFar size content [] l.tails l.k)
