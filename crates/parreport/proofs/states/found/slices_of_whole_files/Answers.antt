use Rattle.std.proofs.Common.{arith}
use Rattle.std.proofs.lemmas.Grind.{common_steps}
use Rattle.parreport.proofs.states.found.slices_of_whole_files.Goals as goal

pub collect-requires-clause-can : goal.collect-requires-clause-can
collect-requires-clause-can c = grind (arith, common_steps) steps 100000

pub collect-requires-clause-finite : goal.collect-requires-clause-finite
collect-requires-clause-finite c = grind (arith, common_steps) steps 100000

pub collect-requires-clause-can_collect : goal.collect-requires-clause-can_collect
collect-requires-clause-can_collect c = grind (arith, common_steps) steps 100000
