use Rattle.std.proofs.Common.{arith}
use Rattle.std.proofs.lemmas.Grind.{common_steps}
use Rattle.parwindow.proofs.index.Index.size.Goals as goal

pub returns-clause-size : goal.returns-clause-size
returns-clause-size c = grind (arith, common_steps)

pub returns-clause-set : goal.returns-clause-set
returns-clause-set c = rw (← c.self.view_is) c.self.invariant.slices
