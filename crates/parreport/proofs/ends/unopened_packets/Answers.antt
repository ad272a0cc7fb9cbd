use Rattle.std.proofs.lemmas.Grind.{elements, common_steps}
use Rattle.std.proofs.Common.{arith}
use Rattle.parreport.proofs.ends.unopened_packets.Goals as goal

pub returns-in-Memory : goal.returns-in-Memory
returns-in-Memory c = grind (arith, common_steps) steps 100000

pub returns-in-CannotOpen : goal.returns-in-CannotOpen
returns-in-CannotOpen c = grind (arith, elements) steps 1500000
