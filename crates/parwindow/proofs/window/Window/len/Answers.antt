use Rattle.std.proofs.Common.{rules}
use Rattle.parwindow.proofs.window.Window.len.Goals as goal

pub returns-clause-len : goal.returns-clause-len
returns-clause-len c = search rules steps 1000000
