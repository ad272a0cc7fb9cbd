use Rattle.parsalvage.proofs.MagicLaws.{magics_apart, matches-places}
use Rattle.parsalvage.proofs.laws.magic_law.Goals as goal

pub returns-clause-apart : goal.returns-clause-apart
returns-clause-apart c = magics_apart

pub returns-clause-found : goal.returns-clause-found
returns-clause-found c = matches-places
