use Rattle.std.proofs.lemmas.Grind.{common_steps}
use Rattle.std.proofs.Common.{arith}
use Rattle.parfind.proofs.searches.places.next_place.Goals as goal

pub loop-at-init : goal.loop-at-init
loop-at-init g c = grind (arith, common_steps) steps 100000

pub returns-then-at-length-clause-found : goal.returns-then-at-length-clause-found
returns-then-at-length-clause-found g c = grind (arith, common_steps) steps 1500000

pub returns-then-at-length-clause-none : goal.returns-then-at-length-clause-none
returns-then-at-length-clause-none g c = grind (arith, common_steps) steps 100000

pub loop-at-smaller : goal.loop-at-smaller
loop-at-smaller g c = grind (arith, common_steps) steps 100000

pub loop-at-preserved : goal.loop-at-preserved
loop-at-preserved g c = grind (arith, common_steps) steps 1500000

pub returns-clause-found : goal.returns-clause-found
returns-clause-found g c = grind (arith, common_steps) steps 100000

pub returns-clause-none : goal.returns-clause-none
returns-clause-none g c = grind (arith, common_steps) steps 100000

pub overflow_add-at : goal.overflow_add-at
overflow_add-at g c = grind (arith, common_steps) steps 100000
