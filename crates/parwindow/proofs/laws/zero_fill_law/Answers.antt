use Rattle.parwindow.proofs.tail_laws.TailContentLaws.{zeros_fill}
use Rattle.parwindow.proofs.laws.zero_fill_law.Goals as goal

pub returns : goal.returns
returns c = zeros_fill
