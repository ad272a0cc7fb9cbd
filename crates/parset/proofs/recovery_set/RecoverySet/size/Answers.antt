use Rattle.std.proofs.Common.{arith}
use Rattle.std.proofs.lemmas.Grind.{common_steps}
use Rattle.parset.proofs.recovery_set.RecoverySet.size.Goals as goal

pub returns-clause-field : goal.returns-clause-field
returns-clause-field c = grind (arith, common_steps)
