use Rattle.std.proofs.Common.{◌≡◌, [], ◌++◌, arith, length-append}
use Rattle.parwindow.proofs.window_laws.ExtendLaws.{keep_last-piece, register_of-piece, each_of_none}
use Rattle.parwindow.specs.Tails.{tail_lengths_of, IsTail}
use Rattle.parwindow.proofs.window.Window.extend_plain.Goals as goal

pub invariant_of-self : goal.invariant_of-self
invariant_of-self c =
    let w = c.self.inside in
    let held = c.self.invariant in
    let bytes = c.args.bytes.now in
    let room = rw (← c.self.view_is) at c.requires.room in
    let none : tail_lengths_of w.tails.items ≡ [] = rw (← c.self.view_is) at c.requires.none in
    rw (
      c.extend_from_slice.ensures,
      c.after_bytes-self-inside.ensures,
      keep_last-piece w.ring.items bytes w.ring.capacity room,
      held.rolled,
    ) (record {
      within = omega (arith, length-append w.ring.items bytes);
      room = held.room;
      rolled = register_of-piece w.ring.items bytes;
      tails = each_of_none (IsTail w.ring.capacity (w.ring.items ++ bytes)) w.tails.items none;
      running = tt;
    })

pub returns : goal.returns
returns c =
    let w = c.self.inside in
    let room = rw (← c.self.view_is) at c.requires.room in
    rw (
      c.extend_from_slice.ensures,
      keep_last-piece w.ring.items c.args.bytes.now w.ring.capacity room,
      ← c.self.view_is,
    )
