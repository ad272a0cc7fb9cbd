use Rattle.std.proofs.Common.{arith, rules}
use Rattle.std.proofs.lemmas.Grind.{common_steps}
use Rattle.parreport.proofs.text.rest.write_rest.Goals as goal

pub returns-clause-sink : goal.returns-clause-sink
returns-clause-sink g c = search rules

pub returns-clause-text : goal.returns-clause-text
returns-clause-text g c = search rules

pub returns-in_err-write_text-clause-text : goal.returns-in_err-write_text-clause-text
returns-in_err-write_text-clause-text g c = grind (arith, common_steps) steps 100000

pub returns-in_err-write_text-clause-fault : goal.returns-in_err-write_text-clause-fault
returns-in_err-write_text-clause-fault g c = grind (arith, common_steps) steps 100000

pub returns-in_err-write_text-clause-sink : goal.returns-in_err-write_text-clause-sink
returns-in_err-write_text-clause-sink g c = grind (arith, common_steps) steps 100000

pub returns-clause-fault : goal.returns-clause-fault
returns-clause-fault g c = grind (arith, common_steps) steps 100000
