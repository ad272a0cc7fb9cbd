use Rattle.std.proofs.Common.{◌∙◌, arith}
use Rattle.parwindow.proofs.tail_laws.PushTailsLaws.{tail_grows}
use Rattle.parwindow.proofs.tails.tail.Tail.pushed.Goals as goal

pub returns-then-len-self : goal.returns-then-len-self
returns-then-len-self c =
    let ring = c.args.ring.now in
    let tail = c.args.self.now in
    let held = c.requires.tail in
    c.after_byte.ensures
    ∙ tail_grows ring.items ring.capacity tail.length c.args.byte tail.register held.rolled
    held.some held.shorter (omega (arith, c.len.ensures.len, c.if-len-self.true))

pub returns : goal.returns
returns c = c.rolled.ensures c.args.byte
