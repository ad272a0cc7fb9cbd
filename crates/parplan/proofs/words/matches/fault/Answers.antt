use Rattle.std.proofs.Common.{rules}
use Rattle.parplan.proofs.words.matches.fault.Goals as goal

pub returns-in-OutOfMemory : goal.returns-in-OutOfMemory
returns-in-OutOfMemory c = search rules steps 1000000
