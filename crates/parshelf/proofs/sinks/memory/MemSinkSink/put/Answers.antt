use Rattle.std.proofs.Common.{arith, rules}
use Rattle.std.proofs.lemmas.Grind.{common_steps}
use Rattle.parshelf.proofs.sinks.memory.MemSinkSink.put.Goals as goal

pub returns-clause-size : goal.returns-clause-size
returns-clause-size c = search rules steps 1000000

pub returns-then-not-is_empty-clause-failed : goal.returns-then-not-is_empty-clause-failed
returns-then-not-is_empty-clause-failed c = search rules steps 1000000

pub returns-then-not-is_empty-clause-full : goal.returns-then-not-is_empty-clause-full
returns-then-not-is_empty-clause-full c = search rules steps 1000000

pub overflow_sub-rest : goal.overflow_sub-rest
overflow_sub-rest c = grind (arith, common_steps) steps 100000

pub invariant_of-self : goal.invariant_of-self
invariant_of-self c = grind (arith, common_steps) steps 100000

pub returns-then-not-is_empty-clause-bound : goal.returns-then-not-is_empty-clause-bound
returns-then-not-is_empty-clause-bound c = grind (arith, common_steps) steps 100000

pub returns-then-not-is_empty-clause-taken : goal.returns-then-not-is_empty-clause-taken
returns-then-not-is_empty-clause-taken c = grind (arith, common_steps) steps 100000

pub returns-then-not-is_empty-clause-nothing : goal.returns-then-not-is_empty-clause-nothing
returns-then-not-is_empty-clause-nothing c = grind (arith, common_steps) steps 100000

pub returns-then-not-is_empty-clause-size : goal.returns-then-not-is_empty-clause-size
returns-then-not-is_empty-clause-size c = grind (arith, common_steps) steps 100000

pub returns-then-not-is_empty-clause-limits : goal.returns-then-not-is_empty-clause-limits
returns-then-not-is_empty-clause-limits c = grind (arith, common_steps) steps 100000

pub returns-then-not-is_empty-clause-fails : goal.returns-then-not-is_empty-clause-fails
returns-then-not-is_empty-clause-fails c = grind (arith, common_steps) steps 100000

pub overflow_add-end : goal.overflow_add-end
overflow_add-end c = grind (arith, common_steps) steps 100000

pub slice_bounds-copy_from_slice-count : goal.slice_bounds-copy_from_slice-count
slice_bounds-copy_from_slice-count c = grind (arith, common_steps) steps 100000

pub slice_bounds-copy_from_slice-start : goal.slice_bounds-copy_from_slice-start
slice_bounds-copy_from_slice-start c = grind (arith, common_steps) steps 100000

pub slice_bounds-copy_from_slice-end : goal.slice_bounds-copy_from_slice-end
slice_bounds-copy_from_slice-end c = grind (arith, common_steps) steps 100000

pub slice_bounds-copy_from_slice-end-2 : goal.slice_bounds-copy_from_slice-end-2
slice_bounds-copy_from_slice-end-2 c = grind (arith, common_steps) steps 100000

pub copy_from_slice-requires : goal.copy_from_slice-requires
copy_from_slice-requires c = grind (arith, common_steps) steps 100000

pub invariant_of-self-2 : goal.invariant_of-self-2
invariant_of-self-2 c = grind (arith, common_steps) steps 100000

pub returns-clause-bound : goal.returns-clause-bound
returns-clause-bound c = grind (arith, common_steps) steps 100000

pub returns-clause-taken : goal.returns-clause-taken
returns-clause-taken c = grind (arith, common_steps) steps 1500000

pub returns-clause-nothing : goal.returns-clause-nothing
returns-clause-nothing c = grind (arith, common_steps) steps 100000

pub returns-clause-full : goal.returns-clause-full
returns-clause-full c = grind (arith, common_steps) steps 100000

pub returns-clause-failed : goal.returns-clause-failed
returns-clause-failed c = grind (arith, common_steps) steps 100000

pub returns-clause-limits : goal.returns-clause-limits
returns-clause-limits c = grind (arith, common_steps) steps 100000

pub returns-clause-fails : goal.returns-clause-fails
returns-clause-fails c = grind (arith, common_steps) steps 100000
