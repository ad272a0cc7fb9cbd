use Rattle.std.proofs.Common.{arith}
use Rattle.std.proofs.lemmas.Grind.{common_steps}
use Rattle.parset.specs.Reasons.{early_main_reason}
use Rattle.parset.proofs.bodies.main_packet.early_main_reason.Goals as goal

pub returns-then-is_large_main-clause-reason : goal.returns-then-is_large_main-clause-reason
unfolding early_main_reason
returns-then-is_large_main-clause-reason c = grind (arith, common_steps)
