use Rattle.std.proofs.Common.{◌∙◌, ap, map}
use Rattle.std.proofs.lemmas.List.{take_rest}
use Rattle.parset.specs.Bodies.{pair_of, pairs_of, pieces_of}
use Rattle.parset.proofs.bodies.checksums.raw_pairs.Goals as goal

pub returns : goal.returns
unfolding pairs_of
returns c =
    ap (map pair_of) (c.as_chunks.ensures.front ∙ ap (pieces_of 20) (take_rest c.args.body.now 16))
