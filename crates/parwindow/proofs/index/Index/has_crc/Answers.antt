use Rattle.std.proofs.Common.{arith, rules}
use Rattle.std.proofs.lemmas.Grind.{common_steps}
use Rattle.parwindow.proofs.index.Index.has_crc.Goals as goal

pub returns-else-may_have : goal.returns-else-may_have
returns-else-may_have c = search rules steps 1000000

pub returns-then-may_have : goal.returns-then-may_have
returns-then-may_have c = grind (arith, common_steps) steps 1500000
