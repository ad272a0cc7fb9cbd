use Rattle.std.proofs.Common.{arith, rules}
use Rattle.std.proofs.lemmas.Grind.{common_steps}
use Rattle.parshelf.proofs.shelves.memory.MemShelf.new.Goals as goal

pub returns-clause-number : goal.returns-clause-number
returns-clause-number c = search rules steps 1000000

pub invariant_of-result : goal.invariant_of-result
invariant_of-result c = grind (arith, common_steps) steps 100000

pub returns-clause-piece : goal.returns-clause-piece
returns-clause-piece c = grind (arith, common_steps) steps 100000

pub returns-clause-failing : goal.returns-clause-failing
returns-clause-failing c = grind (arith, common_steps) steps 100000
