use Rattle.std.proofs.Common.{arith}
use Rattle.std.proofs.lemmas.Grind.{common_steps}
use Rattle.parsalvage.proofs.kept.KeptBody.len.Goals as goal

pub returns-in-Whole : goal.returns-in-Whole
returns-in-Whole c = grind (arith, common_steps) steps 100000

pub returns-in-Front : goal.returns-in-Front
returns-in-Front c = grind (arith, common_steps) steps 100000
