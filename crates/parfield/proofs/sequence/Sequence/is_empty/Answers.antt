use Rattle.std.proofs.Common.{rules}
use Rattle.parfield.proofs.sequence.Sequence.is_empty.Goals as goal

pub returns : goal.returns
returns g c = search rules steps 100000
