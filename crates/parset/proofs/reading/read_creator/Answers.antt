use Rattle.std.proofs.Common.{rules}
use Rattle.parset.proofs.reading.read_creator.Goals as goal

pub returns-in_ok-text-in-Creator-Whole-clause-text : goal.returns-in_ok-text-in-Creator-Whole-clause-text
returns-in_ok-text-in-Creator-Whole-clause-text c = search rules steps 3000000
