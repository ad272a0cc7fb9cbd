use Rattle.std.proofs.Common.{◌≡◌, [], All, take}
use Rattle.parwindow.specs.Tails.{tail_lengths_of, IsTail}
use Rattle.parwindow.proofs.tails.tail_list.tails_for.Given as goal

abbrev pub invariant-loop-length : goal.invariant-loop-length
invariant-loop-length l =
    (tail_lengths_of l.tails.items ≡ take l.length-index l.lengths)
    × All (IsTail l.size []) l.tails.items
