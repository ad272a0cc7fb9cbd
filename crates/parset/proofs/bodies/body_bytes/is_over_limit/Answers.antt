use Rattle.std.proofs.Common.{rules}
use Rattle.parset.proofs.bodies.body_bytes.is_over_limit.Goals as goal

pub returns : goal.returns
returns c = search rules steps 1000000
