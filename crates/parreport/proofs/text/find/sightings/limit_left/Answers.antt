use Rattle.std.proofs.Common.{rules}
use Rattle.parreport.proofs.text.find.sightings.limit_left.Goals as goal

pub returns-in-Some : goal.returns-in-Some
returns-in-Some c = search rules
