use Rattle.parwindow.proofs.window_laws.PushUntilLaws.{no_tails}
use Rattle.parwindow.proofs.laws.no_tails_law.Goals as goal

pub returns : goal.returns
returns c = no_tails
