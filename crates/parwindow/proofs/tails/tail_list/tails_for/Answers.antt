use Rattle.std.proofs.Common.{refl}
use Rattle.parwindow.proofs.tail_laws.PushTailsLaws.{tail_pushed}
use Rattle.parwindow.proofs.tails.tail_list.tails_for.Goals as goal

pub loop-length-preserved : goal.loop-length-preserved
loop-length-preserved c =
    rw c.in_ok-push.ensures.items
    (tail_pushed c.args.size c.args.lengths.now c.loop-length.tails.items c.loop-length.length-index
    _ c.requires.tails c.loop-length-test.true refl refl c.new-in-loop-length.ensures c.loop-length.invariant)
