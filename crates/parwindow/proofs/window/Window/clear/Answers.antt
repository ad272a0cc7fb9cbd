use Rattle.std.proofs.Common.{refl, arith}
use Rattle.parwindow.specs.Crc32.{register_of}
use Rattle.parwindow.proofs.tail_laws.PushTailsLaws.{refilled}
use Rattle.parwindow.proofs.window.Window.clear.Goals as goal

pub invariant_of-self : goal.invariant_of-self
unfolding register_of
invariant_of-self c =
    let w = c.self.inside in
    let same = rw c.deref_mut.ensures.value at c.clear_tails.ensures.lengths in
    rw c.clear.ensures (record {
      within = omega arith;
      room = c.self.invariant.room;
      rolled = refl;
      tails = rw (refilled w.tails.items c.clear_tails.new.tails w.tails.len w.tails.ok.0 same)
          (c.clear_tails.ensures.each w.ring.capacity w.ring.items
          (rw c.deref_mut.ensures.value c.self.invariant.tails));
      running = c.clear_running.ensures w.ring.capacity w.ring.items c.self.invariant.running;
    })
