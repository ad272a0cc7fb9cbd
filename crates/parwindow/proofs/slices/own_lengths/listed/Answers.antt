use Rattle.std.proofs.lemmas.Grind.{common_steps}
use Rattle.std.proofs.Common.{arith}
use Rattle.parwindow.proofs.slices.own_lengths.listed.Goals as goal

pub loop-slice-preserved : goal.loop-slice-preserved
loop-slice-preserved c = grind (arith, common_steps)

pub returns-clause-within : goal.returns-clause-within
returns-clause-within c = grind (arith, common_steps)

pub returns-clause-exactly : goal.returns-clause-exactly
returns-clause-exactly c = grind (arith, common_steps)
