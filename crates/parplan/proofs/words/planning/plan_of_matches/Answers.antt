use Rattle.std.proofs.Common.{arith, rules}
use Rattle.std.proofs.lemmas.Grind.{common_steps}
use Rattle.parplan.proofs.words.planning.plan_of_matches.Goals as goal

pub returns-then-is_empty-clause-plan : goal.returns-then-is_empty-clause-plan
returns-then-is_empty-clause-plan c = search rules steps 3000000

pub returns-in_err-command-clause-plan : goal.returns-in_err-command-clause-plan
returns-in_err-command-clause-plan c = grind (arith, common_steps) steps 100000

pub returns-in_err-command-clause-taken : goal.returns-in_err-command-clause-taken
returns-in_err-command-clause-taken c = grind (arith, common_steps) steps 100000

pub returns-in_err-command-clause-few : goal.returns-in_err-command-clause-few
returns-in_err-command-clause-few c = grind (arith, common_steps) steps 100000

pub returns-in_err-command-clause-some_packets : goal.returns-in_err-command-clause-some_packets
returns-in_err-command-clause-some_packets c = grind (arith, common_steps) steps 100000

pub returns-in_err-command-clause-limit : goal.returns-in_err-command-clause-limit
returns-in_err-command-clause-limit c = grind (arith, common_steps) steps 100000

pub returns-in_err-set-clause-plan : goal.returns-in_err-set-clause-plan
returns-in_err-set-clause-plan c = grind (arith, common_steps) steps 400000

pub returns-in_err-set-clause-taken : goal.returns-in_err-set-clause-taken
returns-in_err-set-clause-taken c = grind (arith, common_steps) steps 400000

pub returns-in_err-set-clause-few : goal.returns-in_err-set-clause-few
returns-in_err-set-clause-few c = grind (arith, common_steps) steps 400000

pub returns-in_err-set-clause-some_packets : goal.returns-in_err-set-clause-some_packets
returns-in_err-set-clause-some_packets c = grind (arith, common_steps) steps 400000

pub returns-in_err-set-clause-limit : goal.returns-in_err-set-clause-limit
returns-in_err-set-clause-limit c = grind (arith, common_steps) steps 400000

pub returns-in_err-base-clause-plan : goal.returns-in_err-base-clause-plan
returns-in_err-base-clause-plan c = grind (arith, common_steps) steps 400000

pub returns-in_err-base-clause-taken : goal.returns-in_err-base-clause-taken
returns-in_err-base-clause-taken c = grind (arith, common_steps) steps 400000

pub returns-in_err-base-clause-few : goal.returns-in_err-base-clause-few
returns-in_err-base-clause-few c = grind (arith, common_steps) steps 400000

pub returns-in_err-base-clause-some_packets : goal.returns-in_err-base-clause-some_packets
returns-in_err-base-clause-some_packets c = grind (arith, common_steps) steps 400000

pub returns-in_err-base-clause-limit : goal.returns-in_err-base-clause-limit
returns-in_err-base-clause-limit c = grind (arith, common_steps) steps 400000

pub returns-in_err-files-clause-plan : goal.returns-in_err-files-clause-plan
returns-in_err-files-clause-plan c = search rules

pub returns-in_err-files-clause-taken : goal.returns-in_err-files-clause-taken
returns-in_err-files-clause-taken c = grind (arith, common_steps) steps 400000

pub returns-in_err-files-clause-few : goal.returns-in_err-files-clause-few
returns-in_err-files-clause-few c = grind (arith, common_steps) steps 400000

pub returns-in_err-files-clause-some_packets : goal.returns-in_err-files-clause-some_packets
returns-in_err-files-clause-some_packets c = grind (arith, common_steps) steps 400000

pub returns-in_err-files-clause-limit : goal.returns-in_err-files-clause-limit
returns-in_err-files-clause-limit c = grind (arith, common_steps) steps 400000

pub returns-in_err-packets-clause-plan : goal.returns-in_err-packets-clause-plan
returns-in_err-packets-clause-plan c = grind (arith, common_steps) steps 400000

pub returns-in_err-packets-clause-taken : goal.returns-in_err-packets-clause-taken
returns-in_err-packets-clause-taken c = grind (arith, common_steps) steps 400000

pub returns-in_err-packets-clause-few : goal.returns-in_err-packets-clause-few
returns-in_err-packets-clause-few c = grind (arith, common_steps) steps 400000

pub returns-in_err-packets-clause-some_packets : goal.returns-in_err-packets-clause-some_packets
returns-in_err-packets-clause-some_packets c = grind (arith, common_steps) steps 400000

pub returns-in_err-packets-clause-limit : goal.returns-in_err-packets-clause-limit
returns-in_err-packets-clause-limit c = grind (arith, common_steps) steps 400000

pub returns-then-is_empty-clause-taken : goal.returns-then-is_empty-clause-taken
returns-then-is_empty-clause-taken c = grind (arith, common_steps) steps 100000

pub returns-then-is_empty-clause-few : goal.returns-then-is_empty-clause-few
returns-then-is_empty-clause-few c = grind (arith, common_steps) steps 100000

pub returns-then-is_empty-clause-some_packets : goal.returns-then-is_empty-clause-some_packets
returns-then-is_empty-clause-some_packets c = grind (arith, common_steps) steps 100000

pub returns-then-is_empty-clause-limit : goal.returns-then-is_empty-clause-limit
returns-then-is_empty-clause-limit c = grind (arith, common_steps) steps 100000

pub returns-in_err-scanned-clause-plan : goal.returns-in_err-scanned-clause-plan
returns-in_err-scanned-clause-plan c = grind (arith, common_steps) steps 400000

pub returns-in_err-scanned-clause-taken : goal.returns-in_err-scanned-clause-taken
returns-in_err-scanned-clause-taken c = grind (arith, common_steps) steps 400000

pub returns-in_err-scanned-clause-few : goal.returns-in_err-scanned-clause-few
returns-in_err-scanned-clause-few c = grind (arith, common_steps) steps 400000

pub returns-in_err-scanned-clause-some_packets : goal.returns-in_err-scanned-clause-some_packets
returns-in_err-scanned-clause-some_packets c = grind (arith, common_steps) steps 400000

pub returns-in_err-scanned-clause-limit : goal.returns-in_err-scanned-clause-limit
returns-in_err-scanned-clause-limit c = grind (arith, common_steps) steps 400000

pub returns-clause-plan : goal.returns-clause-plan
returns-clause-plan c = grind (arith, common_steps) steps 400000

pub returns-clause-taken : goal.returns-clause-taken
returns-clause-taken c = grind (arith, common_steps) steps 100000

pub returns-clause-few : goal.returns-clause-few
returns-clause-few c = grind (arith, common_steps) steps 400000

pub returns-clause-some_packets : goal.returns-clause-some_packets
returns-clause-some_packets c = grind (arith, common_steps) steps 400000

pub returns-clause-limit : goal.returns-clause-limit
returns-clause-limit c = grind (arith, common_steps) steps 400000
