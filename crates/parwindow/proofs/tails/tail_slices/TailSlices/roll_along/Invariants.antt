use Rattle.std.proofs.Common.{◌≡◌, ◌-◌, ◌≤◌, false, IsTrue}
use Rattle.parwindow.specs.Ahead.{window_bytes, is_tail_register, own_register}
use Rattle.parwindow.specs.Rolling.{StopsAt}
use Rattle.parwindow.proofs.tails.tail_slices.TailSlices.roll_along.Given as goal

abbrev pub invariant-loop-roll : goal.invariant-loop-roll
invariant-loop-roll l = record {
  goes_on : l.roll.hit ≡ false;
  within : l.roll.count ≤ l.limit;
  here : StopsAt (λ register. IsTrue (is_tail_register l.self.index.now l.self.tail.now register))
      (own_register l.self.tail.now.length (window_bytes l.stream) l.stream.bytes.now) l.roll.count l.roll;
}

abbrev pub decreases-loop-roll : goal.decreases-loop-roll
decreases-loop-roll l = l.limit - l.roll.count
