use Rattle.std.proofs.lemmas.Grind.{common_steps}
use Rattle.std.proofs.Common.{arith}
use Rattle.parwindow.proofs.slices.bit_set.BitSet.has.Goals as goal

pub returns : goal.returns
returns c = grind (arith, common_steps)
