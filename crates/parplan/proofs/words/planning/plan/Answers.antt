use Rattle.std.proofs.Common.{arith}
use Rattle.std.proofs.lemmas.Grind.{common_steps}
use Rattle.parplan.proofs.words.planning.plan.Goals as goal

pub returns-in_err-verb-clause-plan : goal.returns-in_err-verb-clause-plan
returns-in_err-verb-clause-plan c = grind (arith, common_steps) steps 100000

pub returns-in_err-verb-clause-usage : goal.returns-in_err-verb-clause-usage
returns-in_err-verb-clause-usage c = grind (arith, common_steps) steps 100000

pub returns-in_err-verb-clause-few : goal.returns-in_err-verb-clause-few
returns-in_err-verb-clause-few c = grind (arith, common_steps) steps 100000

pub returns-in_err-verb-clause-some_packets : goal.returns-in_err-verb-clause-some_packets
returns-in_err-verb-clause-some_packets c = grind (arith, common_steps) steps 100000

pub returns-in_err-verb-clause-limit : goal.returns-in_err-verb-clause-limit
returns-in_err-verb-clause-limit c = grind (arith, common_steps) steps 100000

pub returns-in_err-matches-clause-plan : goal.returns-in_err-matches-clause-plan
returns-in_err-matches-clause-plan c = grind (arith, common_steps) steps 100000

pub returns-in_err-matches-clause-usage : goal.returns-in_err-matches-clause-usage
returns-in_err-matches-clause-usage c = grind (arith, common_steps) steps 100000

pub returns-in_err-matches-clause-few : goal.returns-in_err-matches-clause-few
returns-in_err-matches-clause-few c = grind (arith, common_steps) steps 100000

pub returns-in_err-matches-clause-some_packets : goal.returns-in_err-matches-clause-some_packets
returns-in_err-matches-clause-some_packets c = grind (arith, common_steps) steps 100000

pub returns-in_err-matches-clause-limit : goal.returns-in_err-matches-clause-limit
returns-in_err-matches-clause-limit c = grind (arith, common_steps) steps 100000

pub returns-clause-plan : goal.returns-clause-plan
returns-clause-plan c = grind (arith, common_steps) steps 100000

pub returns-clause-usage : goal.returns-clause-usage
returns-clause-usage c = grind (arith, common_steps) steps 1500000

pub returns-clause-few : goal.returns-clause-few
returns-clause-few c = grind (arith, common_steps) steps 100000

pub returns-clause-some_packets : goal.returns-clause-some_packets
returns-clause-some_packets c = grind (arith, common_steps) steps 100000

pub returns-clause-limit : goal.returns-clause-limit
returns-clause-limit c = grind (arith, common_steps) steps 100000
