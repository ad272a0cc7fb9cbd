use Rattle.std.proofs.lemmas.Grind.{common_steps}
use Rattle.std.proofs.Common.{rules, arith}
use Rattle.parshelf.proofs.shelves.disk.DiskShelfShelf.read_at.Goals as goal

pub index-opened-requires : goal.index-opened-requires
index-opened-requires c = grind (arith, common_steps) steps 100000

pub returns-in-Err-clause-failed : goal.returns-in-Err-clause-failed
returns-in-Err-clause-failed c = search rules steps 1000000
