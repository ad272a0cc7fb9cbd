use Rattle.std.proofs.Common.{arith}
use Rattle.std.proofs.lemmas.Grind.{common_steps}
use Rattle.parreport.proofs.states.contents.lengths_of.Goals as goal

pub loop-file-preserved : goal.loop-file-preserved
loop-file-preserved c = grind (arith, common_steps) steps 1000000
