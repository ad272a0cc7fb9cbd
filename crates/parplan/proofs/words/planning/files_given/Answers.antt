use Rattle.std.proofs.Common.{rules}
use Rattle.parplan.proofs.words.planning.files_given.Goals as goal

pub returns-in-Some-2-clause-few : goal.returns-in-Some-2-clause-few
returns-in-Some-2-clause-few c = search rules
