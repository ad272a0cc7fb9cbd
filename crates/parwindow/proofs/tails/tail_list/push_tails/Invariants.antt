use Rattle.std.proofs.Common.{◌≡◌}
use Rattle.parwindow.specs.Tails.{tail_lengths_of}
use Rattle.parwindow.proofs.tail_laws.PushTailsLaws.{moved, MovedSoFar}
use Rattle.parwindow.proofs.tails.tail_list.push_tails.Given as goal

abbrev pub invariant-loop-k : goal.invariant-loop-k
invariant-loop-k l =
    (tail_lengths_of l.tails ≡ tail_lengths_of l.fn.tails)
    × MovedSoFar l.ring.capacity l.ring.items (moved l.ring.items l.ring.capacity l.byte) l.tails
    l.k
