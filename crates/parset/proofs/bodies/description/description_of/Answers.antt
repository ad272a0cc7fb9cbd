use Rattle.parset.specs.Bodies.{file_length_field}
use Rattle.parset.proofs.bodies.description.description_of.Goals as goal

pub returns : goal.returns
unfolding file_length_field
returns c = cc (c.in_ok-copied.ensures)
