use Rattle.std.proofs.Common.{rules}
use Rattle.parwindow.proofs.window.Window.hash.Goals as goal

pub invariant_of-self : goal.invariant_of-self
invariant_of-self c = search rules steps 1000000

pub returns-clause-counted : goal.returns-clause-counted
returns-clause-counted c = search rules steps 1000000

pub returns-clause-digest : goal.returns-clause-digest
returns-clause-digest c = search rules steps 1000000
