use Rattle.std.proofs.Common.{rules}
use Rattle.parshelf.proofs.shelves.disk.OpenFaultFromAllocError.from.Goals as goal

pub returns : goal.returns
returns c = search rules steps 1000000
