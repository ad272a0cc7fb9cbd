use Rattle.std.proofs.Common.{arith}
use Rattle.std.proofs.lemmas.Grind.{common_steps}
use Rattle.parfind.proofs.cursors.cursor_text.are_lower_hex_digits.Goals as goal

pub all-requires-clause-can : goal.all-requires-clause-can
all-requires-clause-can c = grind (arith, common_steps) steps 100000

pub all-requires-clause-finite : goal.all-requires-clause-finite
all-requires-clause-finite c = grind (arith, common_steps) steps 100000

pub all-requires-clause-callable : goal.all-requires-clause-callable
all-requires-clause-callable c = grind (arith, common_steps) steps 100000
