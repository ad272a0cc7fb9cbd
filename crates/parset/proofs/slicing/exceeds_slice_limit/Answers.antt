use Rattle.std.proofs.lemmas.Grind.{common_steps}
use Rattle.std.proofs.Common.{rules, arith}
use Rattle.parset.proofs.slicing.exceeds_slice_limit.Goals as goal

pub loop-file-init : goal.loop-file-init
loop-file-init c = search rules steps 1000000

pub returns-then-count-left : goal.returns-then-count-left
returns-then-count-left c = grind (arith, common_steps)

pub loop-file-preserved : goal.loop-file-preserved
loop-file-preserved c = grind (arith, common_steps) steps 100000

pub returns : goal.returns
returns c = grind (arith, common_steps) steps 100000

pub offset_bounds-files-file-index : goal.offset_bounds-files-file-index
offset_bounds-files-file-index c = grind (arith, common_steps) steps 100000

pub slice_count-count-requires : goal.slice_count-count-requires
slice_count-count-requires c = grind (arith, common_steps) steps 100000
