use Rattle.parwindow.proofs.rolling_laws.RollOverLaws.{pushes_one_by_one}
use Rattle.parwindow.proofs.laws.push_until_law.Goals as goal

pub returns : goal.returns
returns c = pushes_one_by_one
