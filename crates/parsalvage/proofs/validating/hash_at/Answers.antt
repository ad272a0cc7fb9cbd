use Rattle.std.proofs.Common.{◌∙◌, ℕ, List, ap, arith}
use Rattle.std.proofs.lemmas.Result.{err_from_is_err_and}
use Rattle.md5.specs.Md5.{md5}
use Rattle.parshelf.specs.Shelf.{file_of}
use Rattle.parsalvage.proofs.HandLaws.{Hands-from, FaultsAfter-within}
use Rattle.parsalvage.proofs.PieceLaws.{front_then_rest}
use Rattle.parsalvage.proofs.validating.hash_at.Goals as goal

-- the front is hashed from the chunk, and then the rest from the file
pub returns-clause-digest : goal.returns-clause-digest
returns-clause-digest g c = λ files reads.
    let file : List ℕ = file_of files c.args.piece.now.file in
    let begins = c.front_of_part-front.ensures.bytes file (c.requires.piece.is_piece files (c.in_ok-hash_part.ensures.leaves.0.older files reads)) in
    let whole = front_then_rest file c.front_of_part-front.result.now c.args.from c.args.size begins (omega arith) in
    c.finalize.ensures _ (c.in_ok-hash_part.ensures.hashed files reads c.front_of_part-front.result.now c.new_with_prefix-hasher.ensures)
    ∙ ap md5 whole

pub returns-clause-leaves : goal.returns-clause-leaves
returns-clause-leaves g c =
    Hands-from _ _ c.args.piece.now.file _ _ c.in_ok-hash_part.ensures.leaves (λ files reads. omega arith)

pub returns-clause-rest : goal.returns-clause-rest
returns-clause-rest g c = λ begins.
    Hands-from _ _ c.args.piece.now.file _ _ c.in_ok-hash_part.ensures.leaves (λ files reads. omega (arith, c.front_of_part-front.ensures.most begins))

pub returns-in_err-hash_part-clause-leaves : goal.returns-in_err-hash_part-clause-leaves
returns-in_err-hash_part-clause-leaves g c =
    let same = err_from_is_err_and c.from_residual.result c.from_residual.ensures.1 in
    rw (same.1, same.2) (FaultsAfter-within _ _ c.args.piece.now.file _ _ _ c.in_err-hash_part.ensures.leaves (λ files reads. omega arith))

pub returns-in_err-hash_part-clause-rest : goal.returns-in_err-hash_part-clause-rest
returns-in_err-hash_part-clause-rest g c = λ begins.
    let same = err_from_is_err_and c.from_residual.result c.from_residual.ensures.1 in
    rw (same.1, same.2) (FaultsAfter-within _ _ c.args.piece.now.file _ _ _ c.in_err-hash_part.ensures.leaves
    (λ files reads. omega (arith, c.front_of_part-front.ensures.most begins)))
