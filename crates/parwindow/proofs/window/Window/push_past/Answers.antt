use Rattle.std.proofs.Common.{◌≡◌, ◌≤◌, ◌++◌, ap, length, arith}
use Rattle.parwindow.specs.Ahead.{passed_of}
use Rattle.parwindow.specs.Rolled.{window_view}
use Rattle.parwindow.proofs.tail_laws.RollAlongLaws.{fewer_passed}
use Rattle.parwindow.proofs.window_laws.PushLaws.{length-keep_last}
use Rattle.parwindow.proofs.window_laws.PushPastLaws.{all_passed, not_at_slice, pushed_all}
use Rattle.parwindow.proofs.tail_laws.PushTailsLaws.{refilled}
use Rattle.parwindow.proofs.window.Window.push_past.Goals as goal

pub invariant_of-self-2 : goal.invariant_of-self-2
invariant_of-self-2 c =
    let w = c.self.inside in
    let held = c.self.invariant in
    let bytes = c.args.bytes.now in
    let roll = c.roll_over-roll.result in
    let full : length w.ring.items ≡ w.ring.capacity = rw (← c.self.view_is) at c.requires.full in
    let most = fewer_passed (length bytes) c.passed.result roll c.roll_over-roll.ensures.within
    c.passed.ensures in
    let within = c.pass_tails-passed.ensures.within in
    let all : c.pass_tails-passed.result ≡ length bytes = omega arith in
    let far : length bytes ≤ passed_of roll = rw (← c.passed.ensures) (omega arith) in
    let main = (all_passed _ _ _ roll c.roll_over-roll.ensures far).0 in
    let lengths = rw c.deref_mut.ensures.value at c.pass_tails-passed.ensures.lengths in
    rw (c.extend_from_slice.ensures, pushed_all w.ring.items bytes w.ring.capacity full) (record {
      within = rw (← pushed_all w.ring.items bytes w.ring.capacity full)
          (length-keep_last w.ring.capacity (w.ring.items ++ bytes));
      room = held.room;
      rolled = rw c.as_slices.ensures at main;
      tails = rw (refilled w.tails.items c.pass_tails-passed.new.tails w.tails.len w.tails.ok.0
          lengths)
          (rw (c.as_slices.ensures, full) at (c.pass_tails-passed.ensures.all all));
      running = rw (← pushed_all w.ring.items bytes w.ring.capacity full)
          (rw (c.as_slices.ensures, full) at (c.pass_tails-passed.ensures.ran all));
    })

pub returns-clause-all : goal.returns-clause-all
returns-clause-all c = λ all.
    let w = c.self.inside in
    let bytes = c.args.bytes.now in
    let roll = c.roll_over-roll.result in
    let full : length w.ring.items ≡ w.ring.capacity = rw (← c.self.view_is) at c.requires.full in
    let within = c.pass_tails-passed.ensures.within in
    let far : length bytes ≤ passed_of roll = rw (← c.passed.ensures) (omega arith) in
    let main = (all_passed _ _ _ roll c.roll_over-roll.ensures far).1 in
    let lengths = rw c.deref_mut.ensures.value at c.pass_tails-passed.ensures.lengths in
    rw (
      refilled w.tails.items c.pass_tails-passed.new.tails w.tails.len w.tails.ok.0 lengths,
      lengths,
      c.extend_from_slice.ensures,
      ← c.self.view_is,
    )
    (record {
      all = ap (λ xs. record (window_view w) { content = xs })
          (pushed_all w.ring.items bytes w.ring.capacity full);
      none = λ k some few. not_at_slice c.args.index.now (window_view w) bytes k
          (rw (c.as_slices.ensures, full, lengths)
          at (c.pass_tails-passed.ensures.none all k some few))
          (rw c.as_slices.ensures at (main k some few));
    })
