use Rattle.std.proofs.Common.{◌≡◌, ℕ, ◌+◌, ◌-◌, ◌<◌, ◌≤◌, get_or, length}
use Rattle.parwindow.specs.Places.{registers_of}
use Rattle.parwindow.proofs.tails.places.RegisterStream.copied.Given as goal

abbrev pub invariant-loop-done : goal.invariant-loop-done
invariant-loop-done l = record {
  long : length l.copy ≡ 528;
  within : l.done ≤ 528;
  copied : (k : ℕ) → k < l.done → get_or l.copy k 0 ≡ get_or (registers_of l.self) (l.from + k) 0;
}

abbrev pub decreases-loop-done : goal.decreases-loop-done
decreases-loop-done l = 528 - l.done

abbrev pub invariant-loop-i : goal.invariant-loop-i
invariant-loop-i l = record {
  long : length l.copy ≡ 528;
  copied : (k : ℕ) → k < l.done + l.i
      → get_or l.copy k 0 ≡ get_or (registers_of l.self) (l.from + k) 0;
}
