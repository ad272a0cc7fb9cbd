use Rattle.std.proofs.Common.{rules}
use Rattle.parwindow.proofs.index.Index.slices.Goals as goal

pub returns-clause-slices : goal.returns-clause-slices
returns-clause-slices c = search rules steps 1000000
