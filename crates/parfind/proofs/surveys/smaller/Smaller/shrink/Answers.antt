use Rattle.std.proofs.Common.{ap}
use Rattle.parfind.specs.Sought.{Sought}
use Rattle.parfind.proofs.survey_laws.PartLaws.{smaller_part}
use Rattle.parfind.proofs.surveys.smaller.Smaller.shrink.Goals as goal

pub returns-in-Some-Plain-clause-part : goal.returns-in-Some-Plain-clause-part
returns-in-Some-Plain-clause-part c =
    let view = ap (λ (s : Sought). s.set) c.all.view_is in
    rw c.ok.ensures.value (smaller_part c.args.all.now.set c.args.found.now c.requires.each c.missing.result (rw (← view) c.missing.ensures))
