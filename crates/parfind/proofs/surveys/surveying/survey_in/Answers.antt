use Rattle.parfind.proofs.survey_laws.PartLaws.{whole_part}
use Rattle.parfind.proofs.surveys.surveying.survey_in.Goals as goal

pub survey_by-requires-clause-part : goal.survey_by-requires-clause-part
survey_by-requires-clause-part g c = rw (c.none.ensures) (whole_part c.args.index.now c.args.found.now)
