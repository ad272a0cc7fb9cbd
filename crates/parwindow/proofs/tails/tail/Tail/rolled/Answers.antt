use Rattle.std.proofs.Common.{◌≡◌, ◌-◌, ◌<◌, length, arith}
use Rattle.parwindow.proofs.tail_laws.PushTailsLaws.{read_at, tail_rolls}
use Rattle.parwindow.proofs.tails.tail.Tail.rolled.Goals as goal

pub returns : goal.returns
returns c = λ byte.
    let ring = c.args.ring.now in
    let tail = c.args.self.now in
    let held = c.requires.tail in
    let full = c.requires.full in
    let others : tail.tables.others ≡ tail.length - 1 = omega (arith, tail.own) in
    let inside : tail.length < length ring.items = omega (arith, full, held.shorter) in
    rw (
      c.rolled.ensures,
      others,
      c.requires.gone,
      read_at ring.items tail.length c.unwrap_or-come.result _ _ inside c.get.ensures
          c.copied.ensures c.unwrap_or-come.ensures,
    )
    (tail_rolls ring.items ring.capacity tail.length byte tail.register held.rolled
    held.some held.shorter full)
