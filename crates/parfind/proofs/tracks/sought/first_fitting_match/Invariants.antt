use Rattle.std.proofs.Common.{◌<◌, ◌≤◌, ◌-◌, ℕ, length, IsTrue}
use Rattle.parwindow.specs.Index.{slice_passes}
use Rattle.parfind.specs.Fitting.{is_fitting_match}
use Rattle.parfind.proofs.tracks.sought.first_fitting_match.Given as goal

abbrev pub invariant-loop-slice : goal.invariant-loop-slice
invariant-loop-slice l = record {
  onward : l.first ≤ l.from;
  passed : (k : ℕ) → l.first ≤ k → k < l.from → ¬ IsTrue (slice_passes l.index.slices (is_fitting_match l.sums l.left) k);
}

abbrev pub decreases-loop-slice : goal.decreases-loop-slice
decreases-loop-slice l = length l.index.slices - l.from
