use Rattle.std.proofs.Common.{arith}
use Rattle.parfind.specs.Sought.{sought_of}
use Rattle.parfind.specs.Steps.{scan_of}
use Rattle.parfind.proofs.survey_laws.SettledLaws.{settled_sighted}
use Rattle.parfind.proofs.surveys.surveying.survey.Goals as goal

pub returns-then-next_missing-found-clause-found : goal.returns-then-next_missing-found-clause-found
returns-then-next_missing-found-clause-found g c = λ files reads.
    settled_sighted (scan_of (sought_of c.args.index.now c.args.mode) files) c.args.found.now
    (λ n there. c.next_missing.ensures.settled n (omega arith) (omega (arith, c.if-next_missing-found.true)))
