use Rattle.std.proofs.Common.{◌∙◌, ap}
use Rattle.std.proofs.lemmas.List.{take_rest}
use Rattle.parset.specs.Bodies.{name_of, without_end_zeros}
use Rattle.parset.proofs.bodies.description.name_of.Goals as goal

pub returns : goal.returns
unfolding name_of
returns c = c.trimmed.ensures ∙ ap without_end_zeros (take_rest c.args.body.now 56)
