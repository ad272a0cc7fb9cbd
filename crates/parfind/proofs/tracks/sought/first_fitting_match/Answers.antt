use Rattle.std.proofs.Common.{arith}
use Rattle.std.proofs.lemmas.Grind.{common_steps}
use Rattle.parfind.proofs.tracks.sought.first_fitting_match.Goals as goal

pub loop-slice-init : goal.loop-slice-init
loop-slice-init c = grind (arith, common_steps) steps 100000

pub returns-in-None-clause-first : goal.returns-in-None-clause-first
returns-in-None-clause-first c = grind (arith, common_steps) steps 100000

pub returns-in-None-clause-there : goal.returns-in-None-clause-there
returns-in-None-clause-there c = grind (arith, common_steps) steps 100000

pub returns-in-None-clause-few : goal.returns-in-None-clause-few
returns-in-None-clause-few c = grind (arith, common_steps) steps 100000

pub own_length-requires : goal.own_length-requires
own_length-requires c = grind (arith, common_steps) steps 100000

pub returns-then-own_length-left-clause-first : goal.returns-then-own_length-left-clause-first
returns-then-own_length-left-clause-first c = grind (arith, common_steps) steps 100000

pub returns-then-own_length-left-clause-there : goal.returns-then-own_length-left-clause-there
returns-then-own_length-left-clause-there c = grind (arith, common_steps) steps 100000

pub returns-then-own_length-left-clause-few : goal.returns-then-own_length-left-clause-few
returns-then-own_length-left-clause-few c = grind (arith, common_steps) steps 100000

pub overflow_add-from : goal.overflow_add-from
overflow_add-from c = grind (arith, common_steps) steps 100000

pub loop-slice-preserved : goal.loop-slice-preserved
loop-slice-preserved c = grind (arith, common_steps) steps 100000
