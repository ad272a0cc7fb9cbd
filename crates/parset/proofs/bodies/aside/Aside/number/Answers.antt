use Rattle.std.proofs.Common.{rules}
use Rattle.parset.proofs.bodies.aside.Aside.number.Goals as goal

pub returns : goal.returns
returns c = search rules
