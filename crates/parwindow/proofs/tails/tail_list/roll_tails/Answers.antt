use Rattle.std.proofs.Common.{◌∙◌, ◌<◌, ap, get_or, length, arith}
use Rattle.parwindow.specs.Tails.{is_tail_slice, tail_lengths_of, some_tail_slice}
use Rattle.parwindow.proofs.tail_laws.PushTailsLaws.{lengths_more, moved, moved_to}
use Rattle.parwindow.proofs.tail_laws.RollTailsLaws.{all_lengths, length_at, one_fails, one_passes}
use Rattle.parwindow.proofs.tails.tail_list.roll_tails.Goals.{then-roll, else-roll}
use Rattle.parwindow.proofs.tails.tail_list.roll_tails.Goals as goal

pub roll-requires-clause-tail : goal.roll-requires-clause-tail
roll-requires-clause-tail c =
    let below : c.loop-k.k < length c.loop-k.tails = omega arith in
    (c.loop-k.invariant.1 0).others c.loop-k.k c.index-tails-k.result (omega arith) below

pub loop-k-preserved : goal.loop-k-preserved
loop-k-preserved c =
    let tails = c.loop-k.tails in
    let k = c.loop-k.k in
    let e = c.index-tails-k.result in
    let t = c.roll.new.self in
    let ring = c.args.ring.now in
    let lengths = tail_lengths_of c.args.tails.now in
    let below : k < length tails = omega arith in
    let at = length_at tails lengths k c.loop-k.invariant.0 e below in (
      lengths_more tails k t e below c.roll.ensures.length ∙ c.loop-k.invariant.0,
      λ byte. moved_to tails k t e below c.roll.ensures.length ring.capacity ring.items
          (moved ring.items ring.capacity byte) (c.roll.ensures.tail byte)
          (c.loop-k.invariant.1 byte),
      λ byte.
          let p = is_tail_slice c.args.index.now ring.capacity
          (moved ring.items ring.capacity byte) in
          elim c.if-roll.branch [
            | then-roll w ↦
                rw w.hit-is (one_passes p lengths k (get_or tails k e).length c.loop-k.hit
                c.roll.result at.0 at.1 (c.loop-k.invariant.2 byte) (c.roll.ensures.slice byte)
                w.if-roll.true)
            | else-roll w ↦
                rw w.hit-is (one_fails p lengths k (get_or tails k e).length c.loop-k.hit
                c.roll.result at.0 at.1 (c.loop-k.invariant.2 byte) (c.roll.ensures.slice byte)
                w.if-roll.false)
          ],
    )

pub returns-clause-each : goal.returns-clause-each
returns-clause-each c = λ byte k d below.
    (c.loop-k.invariant.1 byte).moved k d (omega (arith, below))

pub returns-clause-slice : goal.returns-clause-slice
returns-clause-slice c = λ byte.
    let ring = c.args.ring.now in
    c.loop-k.invariant.2 byte
    ∙ ap (some_tail_slice c.args.index.now ring.capacity (moved ring.items ring.capacity byte))
    (all_lengths c.loop-k.tails (tail_lengths_of c.args.tails.now) c.loop-k.k c.loop-k.invariant.0
    (omega arith))
