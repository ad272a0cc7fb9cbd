use Rattle.std.proofs.Common.{arith, rules}
use Rattle.std.proofs.lemmas.Grind.{common_steps}
use Rattle.parsalvage.proofs.files.keep_found.Goals as goal

pub returns-clause-some : goal.returns-clause-some
returns-clause-some c = search rules steps 3000000

pub returns-in_err-store-clause-some : goal.returns-in_err-store-clause-some
returns-in_err-store-clause-some c = search rules steps 3000000

pub returns-then-is_empty-clause-kept : goal.returns-then-is_empty-clause-kept
returns-then-is_empty-clause-kept c = grind (arith, common_steps) steps 100000

pub returns-then-is_empty-clause-some : goal.returns-then-is_empty-clause-some
returns-then-is_empty-clause-some c = grind (arith, common_steps) steps 100000

pub returns-in_err-store-clause-kept : goal.returns-in_err-store-clause-kept
returns-in_err-store-clause-kept c = grind (arith, common_steps) steps 100000

pub keep_packets-requires : goal.keep_packets-requires
keep_packets-requires c = grind (arith, common_steps) steps 100000

pub returns-clause-kept : goal.returns-clause-kept
returns-clause-kept c = grind (arith, common_steps) steps 100000
