use Rattle.parfind.proofs.search_laws.StepHandsLaws.{step_hands_out}
use Rattle.parfind.proofs.search_laws.StepLaws.{spent_sees_none}
use Rattle.parfind.proofs.searches.laws.step_law.Goals as goal

pub returns : goal.returns
returns c = record { hits = step_hands_out; spent = spent_sees_none }
