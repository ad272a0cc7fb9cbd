use Rattle.std.proofs.Common.{arith}
use Rattle.parsalvage.proofs.HandLaws.{Hands-none, ReadsAtMost-from}
use Rattle.parsalvage.proofs.piece.Piece.read.Goals as goal

pub returns-in-Some-clause-leaves : goal.returns-in-Some-clause-leaves
returns-in-Some-clause-leaves g c = Hands-none _ _ _

pub returns-in-None-clause-leaves : goal.returns-in-None-clause-leaves
returns-in-None-clause-leaves g c =
    ReadsAtMost-from _ _ _ _ _ _ c.fill.ensures.leaves (λ files reads. omega arith)
