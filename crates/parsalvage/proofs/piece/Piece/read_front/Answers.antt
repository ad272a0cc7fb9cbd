use Rattle.std.proofs.lemmas.Result.{err_from_is_err_and}
use Rattle.std.proofs.lemmas.Grind.{common_steps}
use Rattle.std.proofs.Common.{[], ◌∷◌, ◌≡◌, ℕ, List, length, take, arith}
use Rattle.std.proofs.lemmas.List.{length-take-le}
use Rattle.parshelf.specs.Shelf.{file_of}
use Rattle.parshelf.proofs.ShelfLaws.{length-file_of}
use Rattle.parsalvage.proofs.HandLaws.{FaultsAfter-wider}
use Rattle.parsalvage.proofs.KeptLaws.{front_of-read}
use Rattle.parsalvage.proofs.piece.Piece.read_front.Goals as goal

pub returns-clause-front : goal.returns-clause-front
returns-clause-front g c = λ files reads.
    let file : List ℕ = file_of files c.args.self.now.file in
    let long = length-file_of _ files c.args.self.now.file (c.in_ok-read.ensures.leaves.0.older files reads) in
    let full : length {A = ℕ} (take c.min-count.result (0 ∷ 0 ∷ 0 ∷ 0 ∷ [])) ≡ c.min-count.result = length-take-le _ _ (omega arith) in
    front_of-read file c.args.from c.args.size c.min-count.result c.read.new.buf (omega (arith, long, c.requires.within))
    c.min-count.ensures (rw full at (c.in_ok-read.ensures.bytes files reads))

pub returns-in_err-read-clause-front : goal.returns-in_err-read-clause-front
returns-in_err-read-clause-front g c = grind (arith, common_steps)

pub returns-in_err-read-clause-leaves : goal.returns-in_err-read-clause-leaves
returns-in_err-read-clause-leaves g c =
    let same = err_from_is_err_and c.from_residual.result c.from_residual.ensures.1 in
    let full : length {A = ℕ} (take c.min-count.result (0 ∷ 0 ∷ 0 ∷ 0 ∷ [])) ≡ c.min-count.result = length-take-le _ _ (omega arith) in
    rw (same.1, same.2) (FaultsAfter-wider _ _ c.args.self.now.file _ _ _ c.in_err-read.ensures.leaves (λ files reads. omega (arith, full)))

pub returns-clause-leaves : goal.returns-clause-leaves
returns-clause-leaves g c = grind (arith, common_steps)
