use Rattle.std.proofs.Common.{arith}
use Rattle.std.proofs.lemmas.Grind.{common_steps}
use Rattle.parsalvage.proofs.part.Part.from_vec.Goals as goal

pub returns-in_err-from_vec : goal.returns-in_err-from_vec
returns-in_err-from_vec c = grind (arith, common_steps) steps 100000

pub invariant_of-result : goal.invariant_of-result
invariant_of-result c = grind (arith, common_steps) steps 100000

pub returns : goal.returns
returns c = grind (arith, common_steps) steps 100000
