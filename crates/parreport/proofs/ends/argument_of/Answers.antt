use Rattle.std.proofs.lemmas.Grind.{elements, common_steps}
use Rattle.std.proofs.Common.{arith}
use Rattle.parreport.proofs.ends.argument_of.Goals as goal

pub returns-in_default : goal.returns-in_default
returns-in_default c = grind (arith, common_steps) steps 100000

pub overflow_cast-file : goal.overflow_cast-file
overflow_cast-file c = grind (arith, common_steps) steps 100000

pub overflow_cast-file-2 : goal.overflow_cast-file-2
overflow_cast-file-2 c = grind (arith, common_steps) steps 100000

pub returns-then-packet : goal.returns-then-packet
returns-then-packet c = grind (arith, elements) steps 1500000
