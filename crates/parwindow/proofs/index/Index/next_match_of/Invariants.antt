use Rattle.std.proofs.Common.{ℕ, ◌-◌, ◌<◌, ◌≤◌, length, IsTrue}
use Rattle.parwindow.specs.Index.{has_own, has_sums, slice_passes}
use Rattle.parwindow.proofs.index.Index.next_match_of.Given as goal

abbrev pub invariant-loop-slice : goal.invariant-loop-slice
invariant-loop-slice l =
    (l.from ≤ l.next)
    × ((k : ℕ) → l.from ≤ k → k < l.next
    → ¬ IsTrue (slice_passes l.self.slices (has_own l.own (has_sums (l.digest, l.crc))) k))

abbrev pub decreases-loop-slice : goal.decreases-loop-slice
decreases-loop-slice l = length l.self.slices - l.next
