use Rattle.std.proofs.Common.{arith}
use Rattle.std.proofs.lemmas.Grind.{common_steps}
use Rattle.parset.specs.Reasons.{main_reason, early_main_reason}
use Rattle.parset.proofs.bodies.main_packet.main_reason.Goals as goal

pub returns-then-branch-clause-reason : goal.returns-then-branch-clause-reason
unfolding main_reason early_main_reason
returns-then-branch-clause-reason c = grind (arith, common_steps)

pub returns-then-ne-clause-reason : goal.returns-then-ne-clause-reason
unfolding main_reason early_main_reason
returns-then-ne-clause-reason c = grind (arith, common_steps)

pub returns-clause-reason : goal.returns-clause-reason
unfolding main_reason early_main_reason
returns-clause-reason c = grind (arith, common_steps)
