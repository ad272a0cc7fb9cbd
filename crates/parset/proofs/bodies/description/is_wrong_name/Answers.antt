use Rattle.std.proofs.Common.{arith}
use Rattle.std.proofs.lemmas.Grind.{common_steps}
use Rattle.parset.specs.Reasons.{is_wrong_name}
use Rattle.parset.proofs.bodies.description.is_wrong_name.Goals as goal

pub returns-else-name-gt-NAME_LIMIT : goal.returns-else-name-gt-NAME_LIMIT
unfolding is_wrong_name
returns-else-name-gt-NAME_LIMIT c = grind (arith, common_steps)
