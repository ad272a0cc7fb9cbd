use Rattle.std.proofs.Common.{arith}
use Rattle.std.proofs.lemmas.Grind.{common_steps}
use Rattle.parset.proofs.bodies.main_packet.has_wrong_size.Goals as goal

pub returns-else-size-eq0 : goal.returns-else-size-eq0
returns-else-size-eq0 c = grind (arith, common_steps)
