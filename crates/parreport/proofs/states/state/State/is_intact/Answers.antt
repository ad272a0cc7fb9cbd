use Rattle.std.proofs.Common.{arith}
use Rattle.std.proofs.lemmas.Grind.{common_steps}
use Rattle.parreport.proofs.states.state.State.is_intact.Goals as goal

pub returns-in-Complete : goal.returns-in-Complete
returns-in-Complete c = grind (arith, common_steps) steps 100000

pub returns-in-Damaged : goal.returns-in-Damaged
returns-in-Damaged c = grind (arith, common_steps) steps 100000
