use Rattle.std.proofs.Common.{ℕ, ◌-◌, ◌<◌, ◌≤◌, IsTrue}
use Rattle.parwindow.specs.Ahead.{is_tail_register}
use Rattle.parwindow.specs.Places.{ended_register}
use Rattle.parwindow.proofs.tails.tail_slices.TailSlices.roll_to.Given as goal

abbrev pub invariant-loop-at : goal.invariant-loop-at
invariant-loop-at l = record {
  within : l.at ≤ l.limit;
  none : (i : ℕ) → i < l.at
      → ¬ IsTrue (is_tail_register l.self.index.now l.self.tail.now
      (ended_register l.self.tail.now.length l.fronts.registers l.ends i));
}

abbrev pub decreases-loop-at : goal.decreases-loop-at
decreases-loop-at l = l.limit - l.at
