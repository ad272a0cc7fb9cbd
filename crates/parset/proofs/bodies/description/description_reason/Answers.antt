use Rattle.std.proofs.Common.{arith}
use Rattle.std.proofs.lemmas.Grind.{common_steps}
use Rattle.parset.specs.Bodies.{file_length_field}
use Rattle.parset.specs.Reasons.{description_reason}
use Rattle.parset.proofs.bodies.description.description_reason.Goals as goal

pub returns-then-body-lt56-clause-reason : goal.returns-then-body-lt56-clause-reason
unfolding description_reason file_length_field
returns-then-body-lt56-clause-reason c = grind (arith, common_steps)

pub returns-then-u64_at-ge-LENGTH_LIMIT-clause-reason : goal.returns-then-u64_at-ge-LENGTH_LIMIT-clause-reason
unfolding description_reason file_length_field
returns-then-u64_at-ge-LENGTH_LIMIT-clause-reason c = grind (arith, common_steps)

pub returns-clause-reason : goal.returns-clause-reason
unfolding description_reason file_length_field
returns-clause-reason c = grind (arith, common_steps)
