use Rattle.std.proofs.Common.{rules}
use Rattle.parset.proofs.bodies.description.desc_body.Goals as goal

pub returns-in-Some : goal.returns-in-Some
returns-in-Some c = search rules steps 1000000
