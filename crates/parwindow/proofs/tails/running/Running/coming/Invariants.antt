use Rattle.std.proofs.Common.{◌≡◌, ℕ, ◌-◌, ◌<◌, ◌≤◌, get_or, length}
use Rattle.parwindow.specs.Running.{run_register}
use Rattle.parwindow.proofs.tails.running.Running.coming.Given as goal

abbrev pub invariant-loop-i : goal.invariant-loop-i
invariant-loop-i l = record {
  within : l.i ≤ length l.bytes;
  filled : (length l.registers ≡ 512)
      × ((k : ℕ) → k < l.i → get_or l.registers k 0 ≡ run_register l.self.last l.bytes k);
  here : l.register ≡ run_register l.self.last l.bytes l.i;
}

abbrev pub decreases-loop-i : goal.decreases-loop-i
decreases-loop-i l = length l.bytes - l.i
