use Rattle.std.proofs.Common.{rules}
use Rattle.parfield.proofs.hash16.Hash16.read.Goals as goal

pub returns-in-Ok : goal.returns-in-Ok
returns-in-Ok c = search rules
