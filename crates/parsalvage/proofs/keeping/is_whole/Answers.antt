use Rattle.std.proofs.Common.{arith, rules}
use Rattle.std.proofs.lemmas.Grind.{common_steps}
use Rattle.parsalvage.proofs.keeping.is_whole.Goals as goal

pub returns-then-holds_whole : goal.returns-then-holds_whole
returns-then-holds_whole c = search rules

pub returns-else-holds_whole : goal.returns-else-holds_whole
returns-else-holds_whole c = grind (arith, common_steps) steps 100000
