use Rattle.std.proofs.Common.{◌≡◌, ◌∙◌, [], ◌++◌, length, take, sym, ap, arith}
use Rattle.circular_buffer.specs.Buffer.{keep_last}
use Rattle.parwindow.specs.Crc32.{register_of}
use Rattle.parwindow.specs.Tails.{tail_lengths_of, IsTail}
use Rattle.parwindow.proofs.window_laws.ExtendLaws.{each_of_none}
use Rattle.parwindow.proofs.window_laws.PushLaws.{length-keep_last}
use Rattle.std.proofs.lemmas.Grind.{common_steps}
use Rattle.parwindow.proofs.window_laws.PushUntilLaws.{keep_last-some, pushes_until}
use Rattle.parwindow.specs.Rolled.{window_view}
use Rattle.parwindow.proofs.window.Window.push_plain_until.Goals as goal

pub returns-clause-until : goal.returns-clause-until
returns-clause-until c =
    rw (← c.self.view_is)
    (pushes_until c.args.index.now (window_view c.self.inside) c.args.bytes.now
    c.roll_over-roll.result (rw (← c.self.view_is) at c.requires.none)
    (rw (c.as_slices.ensures) at c.roll_over-roll.ensures))

pub invariant_of-self : goal.invariant_of-self
invariant_of-self c =
    let w = c.self.inside in
    let held = c.self.invariant in
    let bytes = c.args.bytes.now in
    let roll = c.roll_over-roll.result in
    let full : length w.ring.items ≡ w.ring.capacity = rw (← c.self.view_is) at c.requires.full in
    let none : tail_lengths_of w.tails.items ≡ [] = rw (← c.self.view_is) at c.requires.none in
    let kept = keep_last-some w.ring.items bytes w.ring.capacity roll.count full
    c.roll_over-roll.ensures.within in
    rw c.extend_from_slice.ensures (record {
      within = length-keep_last w.ring.capacity (w.ring.items ++ take roll.count bytes);
      room = held.room;
      rolled = rw c.as_slices.ensures at c.roll_over-roll.ensures.register
          ∙ ap register_of (sym kept);
      tails = each_of_none (IsTail w.ring.capacity
          (keep_last w.ring.capacity (w.ring.items ++ take roll.count bytes))) w.tails.items none;
      running = tt;
    })

pub returns-clause-content : goal.returns-clause-content
returns-clause-content c = grind (arith, common_steps) steps 1500000

pub roll_over-roll-requires-clause-full : goal.roll_over-roll-requires-clause-full
roll_over-roll-requires-clause-full c = grind (arith, common_steps) steps 100000

pub roll_over-roll-requires-clause-start : goal.roll_over-roll-requires-clause-start
roll_over-roll-requires-clause-start c = grind (arith, common_steps) steps 100000

pub slice_bounds-extend_from_slice-end : goal.slice_bounds-extend_from_slice-end
slice_bounds-extend_from_slice-end c = grind (arith, common_steps) steps 100000
