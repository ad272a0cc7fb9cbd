use Rattle.std.proofs.Common.{ap, ◌∙◌, ◌<◌, ◌++◌, ◌∷◌, [], arith}
use Rattle.parwindow.proofs.window_laws.PushLaws.{ring_content, ring_fallen, register_moves, length-keep_last}
use Rattle.parwindow.proofs.tail_laws.PushTailsLaws.{refilled}
use Rattle.parwindow.specs.Rolled.{window_view}
use Rattle.parwindow.proofs.window.Window.push.Goals as goal

pub invariant_of-self : goal.invariant_of-self
invariant_of-self c =
    let w = c.self.inside in
    let held = c.self.invariant in
    let fallen = c.push_back-fallen.ensures in
    let same = rw c.deref_mut.ensures.value at c.push_tails.ensures.lengths in
    rw (fallen.items, c.pushed-self-inside.ensures, fallen.value, held.rolled) (record {
      within = length-keep_last w.ring.capacity (w.ring.items ++ c.args.byte ∷ []);
      room = held.room;
      rolled = register_moves w.ring.items w.ring.capacity w.tables.others c.args.byte
          held.within held.room;
      tails = rw (refilled w.tails.items c.push_tails.new.tails w.tails.len w.tails.ok.0 same)
          c.push_tails.ensures.each;
      running = c.push_running.ensures w.ring.capacity w.ring.items held.running;
    })

pub returns-clause-content : goal.returns-clause-content
returns-clause-content c =
    let w = c.self.inside in
    let some : 0 < w.ring.capacity = omega (arith, c.self.invariant.room) in
    let same = rw c.deref_mut.ensures.value at c.push_tails.ensures.lengths in
    rw (
      refilled w.tails.items c.push_tails.new.tails w.tails.len w.tails.ok.0 same,
      same,
      c.push_back-fallen.ensures.items,
      ← c.self.view_is,
    )
    (ap (λ xs. record (window_view w) { content = xs })
    (ring_content w.ring.items w.ring.capacity c.args.byte c.self.invariant.within some))

pub returns-clause-answer : goal.returns-clause-answer
returns-clause-answer c =
    let w = c.self.inside in
    let some : 0 < w.ring.capacity = omega (arith, c.self.invariant.room) in
    rw (← c.self.view_is)
    (c.push_back-fallen.ensures.value
    ∙ ring_fallen w.ring.items w.ring.capacity c.args.byte c.self.invariant.within some)
