use Rattle.std.proofs.Common.{arith}
use Rattle.std.proofs.lemmas.Grind.{common_steps}
use Rattle.parset.specs.Bodies.{exponent_of}
use Rattle.parset.specs.Reasons.{slice_reason}
use Rattle.parset.proofs.bodies.recovery_slice.slice_body.Goals as goal

pub returns-then-len-lt4 : goal.returns-then-len-lt4
unfolding slice_reason exponent_of
returns-then-len-lt4 c = grind (arith, common_steps)

pub returns-then-exponent-gt-EXPONENT_LIMIT : goal.returns-then-exponent-gt-EXPONENT_LIMIT
unfolding slice_reason exponent_of
returns-then-exponent-gt-EXPONENT_LIMIT c = grind (arith, common_steps)

pub returns : goal.returns
unfolding slice_reason exponent_of
returns c = grind (arith, common_steps)
