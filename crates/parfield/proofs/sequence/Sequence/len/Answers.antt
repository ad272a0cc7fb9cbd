use Rattle.std.proofs.Common.{rules}
use Rattle.parfield.proofs.sequence.Sequence.len.Goals as goal

pub returns : goal.returns
returns g c = search rules steps 100000
