use Rattle.std.proofs.Common.{ap, ◌<◌, ◌++◌, ◌∷◌, [], arith}
use Rattle.parwindow.proofs.window_laws.PushLaws.{ring_content, register_moves, length-keep_last}
use Rattle.parwindow.proofs.tail_laws.PushTailsLaws.{refilled}
use Rattle.parwindow.specs.Rolled.{window_view}
use Rattle.parwindow.proofs.window.Window.push_by_tails.Goals as goal

pub invariant_of-self : goal.invariant_of-self
invariant_of-self c =
    let w = c.self.inside in
    let held = c.self.invariant in
    let fallen = c.push_back-fallen.ensures in
    let same = rw c.deref_mut.ensures.value at c.roll_tails-has_tail.ensures.lengths in
    rw (fallen.items, c.pushed-self-inside.ensures, fallen.value, held.rolled) (record {
      within = length-keep_last w.ring.capacity (w.ring.items ++ c.args.byte ∷ []);
      room = held.room;
      rolled = register_moves w.ring.items w.ring.capacity w.tables.others c.args.byte
          held.within held.room;
      tails = rw (refilled w.tails.items c.roll_tails-has_tail.new.tails w.tails.len w.tails.ok.0 same)
          (c.roll_tails-has_tail.ensures.each c.args.byte);
      running = c.push_running.ensures w.ring.capacity w.ring.items held.running;
    })

pub returns-clause-content : goal.returns-clause-content
returns-clause-content c =
    let w = c.self.inside in
    let some : 0 < w.ring.capacity = omega (arith, c.self.invariant.room) in
    let same = rw c.deref_mut.ensures.value at c.roll_tails-has_tail.ensures.lengths in
    rw (
      refilled w.tails.items c.roll_tails-has_tail.new.tails w.tails.len w.tails.ok.0 same,
      same,
      c.push_back-fallen.ensures.items,
      ← c.self.view_is,
    )
    (ap (λ xs. record (window_view w) { content = xs })
    (ring_content w.ring.items w.ring.capacity c.args.byte c.self.invariant.within some))

pub returns-clause-slice : goal.returns-clause-slice
returns-clause-slice c =
    let w = c.self.inside in
    let same = rw c.deref_mut.ensures.value at c.roll_tails-has_tail.ensures.lengths in
    rw (
      refilled w.tails.items c.roll_tails-has_tail.new.tails w.tails.len w.tails.ok.0 same,
      c.push_back-fallen.ensures.items,
    )
    (c.roll_tails-has_tail.ensures.slice c.args.byte)
