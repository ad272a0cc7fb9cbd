use Rattle.std.proofs.Common.{arith}
use Rattle.std.proofs.lemmas.Grind.{common_steps}
use Rattle.parshelf.proofs.shelves.memory.MemShelfShelf.count.Goals as goal

pub returns : goal.returns
returns c = grind (arith, common_steps) steps 1000000
