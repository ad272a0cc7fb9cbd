use Rattle.parfind.proofs.survey_laws.PartLaws.{missing_part, whole_part}
use Rattle.parfind.proofs.surveys.surveying.first_smaller.Goals as goal

pub returns : goal.returns
returns c = rw (c.in_ok-missing.ensures) (missing_part c.args.index.now c.args.found.now c.requires)

pub returns-then-none-eq0 : goal.returns-then-none-eq0
returns-then-none-eq0 c = rw (c.none_yet-none.ensures.index) (whole_part c.args.index.now c.args.found.now)
