use Rattle.std.proofs.Common.{arith, rules}
use Rattle.std.proofs.lemmas.Grind.{common_steps}
use Rattle.parsalvage.proofs.part.Part.as_slice.Goals as goal

pub returns : goal.returns
returns c = search rules steps 1000000

pub overflow_add-result : goal.overflow_add-result
overflow_add-result c = grind (arith, common_steps) steps 100000

pub slice_bounds-result-count : goal.slice_bounds-result-count
slice_bounds-result-count c = grind (arith, common_steps) steps 100000

pub slice_bounds-result-start : goal.slice_bounds-result-start
slice_bounds-result-start c = grind (arith, common_steps) steps 100000

pub slice_bounds-result-end : goal.slice_bounds-result-end
slice_bounds-result-end c = grind (arith, common_steps) steps 100000
