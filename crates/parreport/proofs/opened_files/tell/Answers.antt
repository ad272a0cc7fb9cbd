use Rattle.std.proofs.Common.{arith}
use Rattle.std.proofs.lemmas.Grind.{common_steps}
use Rattle.parreport.proofs.opened_files.tell.Goals as goal

pub ending-requires-text-argument : goal.ending-requires-text-argument
ending-requires-text-argument c = grind (arith, common_steps) steps 100000

pub returns : goal.returns
returns c = grind (arith, common_steps) steps 100000
