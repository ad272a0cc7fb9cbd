use Rattle.std.proofs.Common.{arith, rules}
use Rattle.std.proofs.lemmas.Grind.{common_steps}
use Rattle.parreport.proofs.opened_files.run_opened.Goals as goal

pub returns-clause-nothing_written : goal.returns-clause-nothing_written
returns-clause-nothing_written g c = search rules

pub returns-clause-unopened : goal.returns-clause-unopened
returns-clause-unopened g c = search rules

pub run_and_tell-requires-clause-packets : goal.run_and_tell-requires-clause-packets
run_and_tell-requires-clause-packets g c = grind (arith, common_steps) steps 100000

pub run_and_tell-requires-clause-scanned : goal.run_and_tell-requires-clause-scanned
run_and_tell-requires-clause-scanned g c = grind (arith, common_steps) steps 100000

pub run_and_tell-requires-clause-limit : goal.run_and_tell-requires-clause-limit
run_and_tell-requires-clause-limit g c = grind (arith, common_steps) steps 100000

pub returns-clause-ran : goal.returns-clause-ran
returns-clause-ran g c = grind (arith, common_steps) steps 400000

pub returns-clause-packets : goal.returns-clause-packets
returns-clause-packets g c = grind (arith, common_steps) steps 100000

pub returns-clause-scanned : goal.returns-clause-scanned
returns-clause-scanned g c = grind (arith, common_steps) steps 100000
