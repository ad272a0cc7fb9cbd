use Rattle.std.proofs.Common.{rules}
use Rattle.parset.proofs.bodies.aside.BodyFaultFromAllocError.from.Goals as goal

pub returns : goal.returns
returns c = search rules steps 1000000
