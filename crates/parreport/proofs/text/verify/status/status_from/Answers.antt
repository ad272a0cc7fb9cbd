use Rattle.std.proofs.Common.{arith, rules}
use Rattle.std.proofs.lemmas.Grind.{common_steps}
use Rattle.parreport.proofs.text.verify.status.status_from.Goals as goal

pub returns-else-need-have : goal.returns-else-need-have
returns-else-need-have c = search rules

pub returns-then-need-have : goal.returns-then-need-have
returns-then-need-have c = search rules

pub returns-then-are_complete : goal.returns-then-are_complete
returns-then-are_complete c = grind (arith, common_steps) steps 100000
