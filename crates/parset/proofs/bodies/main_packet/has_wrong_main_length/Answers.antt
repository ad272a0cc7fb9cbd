use Rattle.std.proofs.Common.{arith}
use Rattle.std.proofs.lemmas.Grind.{common_steps}
use Rattle.parset.proofs.bodies.main_packet.has_wrong_main_length.Goals as goal

pub returns-then-body-ne0 : goal.returns-then-body-ne0
returns-then-body-ne0 c = grind (arith, common_steps)

pub returns-else-body-ne0 : goal.returns-else-body-ne0
returns-else-body-ne0 c = grind (arith, common_steps)
