use Rattle.std.proofs.Common.{arith, rules}
use Rattle.std.proofs.lemmas.Grind.{common_steps}
use Rattle.parsalvage.proofs.kept.Kept.is_chosen.Goals as goal

pub returns-in-Some : goal.returns-in-Some
returns-in-Some c = search rules steps 1000000

pub returns-in-None : goal.returns-in-None
returns-in-None c = grind (arith, common_steps) steps 100000
