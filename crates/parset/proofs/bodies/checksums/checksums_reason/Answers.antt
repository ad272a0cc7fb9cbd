use Rattle.std.proofs.Common.{arith}
use Rattle.std.proofs.lemmas.Grind.{common_steps}
use Rattle.parset.specs.Reasons.{checksums_reason}
use Rattle.parset.proofs.bodies.checksums.checksums_reason.Goals as goal

pub returns-then-body-lt16-clause-reason : goal.returns-then-body-lt16-clause-reason
unfolding checksums_reason
returns-then-body-lt16-clause-reason c = grind (arith, common_steps)

pub returns-clause-reason : goal.returns-clause-reason
unfolding checksums_reason
returns-clause-reason c = grind (arith, common_steps)
