use Rattle.std.proofs.Common.{arith}
use Rattle.std.proofs.lemmas.Grind.{common_steps}
use Rattle.parfind.proofs.cursors.cursor_text.is_canonical.Goals as goal

pub returns-in_default : goal.returns-in_default
returns-in_default c = grind (arith, common_steps) steps 100000

pub returns-else-first-eq48 : goal.returns-else-first-eq48
returns-else-first-eq48 c = grind (arith, common_steps) steps 100000
