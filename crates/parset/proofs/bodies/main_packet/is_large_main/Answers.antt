use Rattle.std.proofs.Common.{arith}
use Rattle.std.proofs.lemmas.Grind.{common_steps}
use Rattle.parset.proofs.bodies.main_packet.is_large_main.Goals as goal

pub returns-else-slice_size-gt-SIZE_LIMIT : goal.returns-else-slice_size-gt-SIZE_LIMIT
returns-else-slice_size-gt-SIZE_LIMIT c = grind (arith, common_steps)
