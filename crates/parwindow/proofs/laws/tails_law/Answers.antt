use Rattle.parwindow.proofs.slice_laws.TailLengthsLaws.{tails_fit}
use Rattle.parwindow.proofs.laws.tails_law.Goals as goal

pub returns : goal.returns
returns c = tails_fit
