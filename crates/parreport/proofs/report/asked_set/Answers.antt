use Rattle.std.proofs.Common.{arith}
use Rattle.std.proofs.lemmas.Grind.{common_steps}
use Rattle.parreport.proofs.report.asked_set.Goals as goal

pub returns-in_err-build : goal.returns-in_err-build
returns-in_err-build c = grind (arith, common_steps) steps 100000

pub returns : goal.returns
returns c = grind (arith, common_steps) steps 100000
