use Rattle.parfind.proofs.survey_laws.LeastMissingLaws.{LeastSoFar}
use Rattle.parfind.proofs.surveys.walk.least_missing.Given as goal

abbrev pub invariant-loop-number : goal.invariant-loop-number
invariant-loop-number l = LeastSoFar l.sought.set.slices l.found l.number l.least
