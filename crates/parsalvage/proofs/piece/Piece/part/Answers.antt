use Rattle.std.proofs.Common.{◌≡◌, length, arith}
use Rattle.parsalvage.proofs.piece.Piece.part.Goals as goal

pub returns-clause-bytes : goal.returns-clause-bytes
returns-clause-bytes c = λ file piece.
    let all : length c.front_of_part-front.result.now ≡ c.args.size = omega arith in
    rw all at (c.front_of_part-front.ensures.bytes file piece)
