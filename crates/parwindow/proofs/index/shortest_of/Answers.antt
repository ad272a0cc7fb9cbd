use Rattle.std.proofs.lemmas.Grind.{common_steps}
use Rattle.std.proofs.Common.{arith}
use Rattle.parwindow.proofs.index.shortest_of.Goals as goal

pub loop-slice-preserved : goal.loop-slice-preserved
loop-slice-preserved c = grind (arith, common_steps) steps 1500000

pub returns : goal.returns
returns c = grind (arith, common_steps) steps 100000

pub loop-slice-init : goal.loop-slice-init
loop-slice-init c = grind (arith, common_steps) steps 100000

pub offset_bounds-slices-slice-index : goal.offset_bounds-slices-slice-index
offset_bounds-slices-slice-index c = grind (arith, common_steps) steps 100000
