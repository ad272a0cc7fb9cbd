use Rattle.std.proofs.Common.{refl, ◌∙◌}
use Rattle.parwindow.proofs.tail_laws.TailContentLaws.{tail_slice}
use Rattle.parwindow.proofs.tail_laws.RollTailsLaws.{rolled_tail}
use Rattle.parwindow.proofs.tail_laws.PushTailsLaws.{moved}
use Rattle.parwindow.proofs.tails.tail.Tail.roll.Goals as goal

pub returns-clause-tail : goal.returns-clause-tail
returns-clause-tail c = λ byte.
    let ring = c.args.ring.now in
    rolled_tail ring.capacity ring.items (moved ring.items ring.capacity byte) c.args.self.now _
    c.requires.tail refl refl (c.rolled-self.ensures byte)

pub returns-clause-slice : goal.returns-clause-slice
returns-clause-slice c = λ byte.
    let ring = c.args.ring.now in
    c.is_slice.ensures
    ∙ tail_slice c.args.index.now ring.capacity (moved ring.items ring.capacity byte)
    (record c.args.self.now { register = c.rolled-self.result })
    (rolled_tail ring.capacity ring.items (moved ring.items ring.capacity byte) c.args.self.now _
    c.requires.tail refl refl (c.rolled-self.ensures byte))
