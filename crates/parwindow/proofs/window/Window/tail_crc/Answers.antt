use Rattle.parwindow.proofs.tail_laws.TailContentLaws.{tail_is, tail_length, tail_crc_is}
use Rattle.parwindow.proofs.window.Window.tail_crc.Goals as goal

pub returns : goal.returns
returns c =
    let w = c.self.inside in
    let tail = c.index-tail.result.now in
    let within = rw (← c.self.view_is) at c.requires.tail in
    let is = c.index-tail.ensures in
    let rolled = tail_is w.tails.items c.args.k w.ring.capacity w.ring.items tail within is
    c.self.invariant.tails in
    rw (
      ← c.self.view_is,
      c.apply.ensures,
      tail_length w.tails.items c.args.k w.ring.capacity w.ring.items tail within is,
    )
    (tail_crc_is w.ring.items w.ring.capacity tail.length tail.zeros.len tail.register rolled.rolled
    rolled.filled)
