use Rattle.std.proofs.Common.{◌≡◌, ℕ, take}
use Rattle.parwindow.specs.Tails.{tail_lengths_of, some_tail_slice}
use Rattle.parwindow.proofs.tail_laws.PushTailsLaws.{moved, MovedSoFar}
use Rattle.parwindow.proofs.tails.tail_list.roll_tails.Given as goal

abbrev pub invariant-loop-k : goal.invariant-loop-k
invariant-loop-k l =
    (tail_lengths_of l.tails ≡ tail_lengths_of l.fn.tails)
    × ((byte : ℕ) → MovedSoFar l.ring.capacity l.ring.items
    (moved l.ring.items l.ring.capacity byte) l.tails l.k)
    × ((byte : ℕ) → l.hit ≡ some_tail_slice l.index l.ring.capacity
    (moved l.ring.items l.ring.capacity byte) (take l.k (tail_lengths_of l.fn.tails)))
