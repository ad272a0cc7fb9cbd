use Rattle.parfind.proofs.search_laws.ReachLaws.{reach_adds_up}
use Rattle.parfind.proofs.searches.laws.reach_law.Goals as goal

pub returns : goal.returns
returns c = reach_adds_up
