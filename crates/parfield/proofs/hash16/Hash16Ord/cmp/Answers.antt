use Rattle.std.proofs.Common.{rules}
use Rattle.parfield.proofs.hash16.Hash16Ord.cmp.Goals as goal

pub returns : goal.returns
returns c = search rules steps 100000
