use Rattle.std.proofs.lemmas.Grind.{common_steps}
use Rattle.std.proofs.Common.{arith}
use Rattle.parfield.proofs.packet.packet_at.Goals as goal

pub returns-in_err-rest-clause-found : goal.returns-in_err-rest-clause-found
returns-in_err-rest-clause-found c = grind (arith, common_steps)

pub returns-in-Ok-clause-found : goal.returns-in-Ok-clause-found
returns-in-Ok-clause-found c = grind (arith, common_steps)

pub returns-in-Ok-clause-packet : goal.returns-in-Ok-clause-packet
returns-in-Ok-clause-packet c = grind (arith, common_steps)

pub returns-in-Err-clause-found : goal.returns-in-Err-clause-found
returns-in-Err-clause-found c = grind (arith, common_steps)
