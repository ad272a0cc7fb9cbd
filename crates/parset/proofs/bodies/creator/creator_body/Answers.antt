use Rattle.std.proofs.Common.{rules}
use Rattle.parset.specs.Bodies.{creator_text_of}
use Rattle.parset.proofs.bodies.creator.creator_body.Goals as goal

pub returns : goal.returns
unfolding creator_text_of
returns c = search rules steps 1000000
