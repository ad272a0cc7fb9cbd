use Rattle.std.proofs.Common.{◌∙◌, ap, map}
use Rattle.std.proofs.lemmas.List.{take_rest}
use Rattle.parset.specs.Bodies.{file_ids_of, hash_of, pieces_of}
use Rattle.parset.proofs.bodies.main_packet.file_ids.Goals as goal

pub returns : goal.returns
unfolding file_ids_of
returns c =
    ap (map hash_of) (c.as_chunks.ensures.front ∙ ap (pieces_of 16) (take_rest c.args.body.now 12))
