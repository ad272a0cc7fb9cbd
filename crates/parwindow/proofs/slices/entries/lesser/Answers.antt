use Rattle.std.proofs.Common.{rules}
use Rattle.parwindow.proofs.slices.entries.lesser.Goals as goal

pub returns-then-number-from : goal.returns-then-number-from
returns-then-number-from c = search rules steps 1000000
