use Rattle.std.proofs.Common.{ℕ, ◌<◌, ◌≤◌, ◌-◌, length, IsTrue}
use Rattle.parfind.specs.Surveys.{is_settled}
use Rattle.parfind.proofs.surveys.walk.next_missing.Given as goal

abbrev pub invariant-loop-number : goal.invariant-loop-number
invariant-loop-number l = record {
  onward : l.from ≤ l.number;
  within : l.number ≤ length l.found;
  settled : (n : ℕ) → l.from ≤ n → n < l.number → IsTrue (is_settled l.sought.set l.found n);
}

abbrev pub decreases-loop-number : goal.decreases-loop-number
decreases-loop-number l = length l.found - l.number
