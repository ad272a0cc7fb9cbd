use Rattle.std.proofs.Common.{ℕ, ◌<◌, ◌≤◌, IsTrue}
use Rattle.parwindow.specs.Ahead.{is_tail_register}
use Rattle.parwindow.specs.Places.{ended_register}
use Rattle.parwindow.proofs.tails.tail_slices.TailSlices.first_marked.Given as goal

abbrev pub invariant-loop-i : goal.invariant-loop-i
invariant-loop-i l =
    (k : ℕ) → l.at ≤ k → k < l.to → k < l.i
    → ¬ IsTrue (is_tail_register l.self.index.now l.self.tail.now
    (ended_register l.self.tail.now.length l.fronts.registers l.ends k))
