use Rattle.std.proofs.lemmas.Grind.{common_steps}
use Rattle.std.proofs.Common.{true, false, drop, arith}
use Rattle.std.proofs.lemmas.Result.{err_from_is_err_and}
use Rattle.parshelf.specs.Shelf.{file_of}
use Rattle.parsalvage.proofs.HandLaws.{Hands-wider, FaultsAfter-wider}
use Rattle.parsalvage.proofs.PieceLaws.{IsPieceOf-read}
use Rattle.parsalvage.proofs.ValidateLaws.{validated_hands, validated_fault, validated_rest, validated_rest_fault, validated_packet, unframed_no_packet}
use Rattle.parsalvage.proofs.validating.validate.Goals as goal

pub returns-in_err-hash-in-Some-clause-leaves : goal.returns-in_err-hash-in-Some-clause-leaves
returns-in_err-hash-in-Some-clause-leaves g c =
    let same = err_from_is_err_and c.from_residual-in_err-hash-in-Some.result c.from_residual-in_err-hash-in-Some.ensures.1 in
    rw (same.1, same.2)
    (validated_fault _ _ c.args.piece.now.file c.args.at c.in-Some.head
    (λ files reads. rw c.in-Some.is at (c.in_ok-head.ensures.found files reads))
    (λ files reads. rw c.in-Some.is at (c.in_ok-head.ensures.fields files reads))
    c.in_ok-head.ensures.leaves _ _ c.in_err-hash-in-Some.ensures.leaves)

pub returns-then-eq-clause-found : goal.returns-then-eq-clause-found
returns-then-eq-clause-found g c = λ files reads.
    validated_packet _ _ c.args.piece.now.file c.args.at c.in-Some.head
    (λ files reads. rw c.in-Some.is at (c.in_ok-head.ensures.found files reads))
    (λ files reads. rw c.in-Some.is at (c.in_ok-head.ensures.fields files reads))
    c.in_ok-head.ensures.leaves files (c.in_ok-hash-in-Some.ensures.leaves.0.older files reads)
    c.in_ok-hash-in-Some.hash.0 true (c.in_ok-hash-in-Some.ensures.digest files reads) c.if-eq.ensures

pub returns-then-eq-clause-leaves : goal.returns-then-eq-clause-leaves
returns-then-eq-clause-leaves g c =
    validated_hands _ _ c.args.piece.now.file c.args.at c.in-Some.head
    (λ files reads. rw c.in-Some.is at (c.in_ok-head.ensures.found files reads))
    (λ files reads. rw c.in-Some.is at (c.in_ok-head.ensures.fields files reads))
    c.in_ok-head.ensures.leaves _ c.in_ok-hash-in-Some.ensures.leaves

pub returns-else-eq-clause-found : goal.returns-else-eq-clause-found
returns-else-eq-clause-found g c = λ files reads.
    validated_packet _ _ c.args.piece.now.file c.args.at c.in-Some.head
    (λ files reads. rw c.in-Some.is at (c.in_ok-head.ensures.found files reads))
    (λ files reads. rw c.in-Some.is at (c.in_ok-head.ensures.fields files reads))
    c.in_ok-head.ensures.leaves files (c.in_ok-hash-in-Some.ensures.leaves.0.older files reads)
    c.in_ok-hash-in-Some.hash.0 false (c.in_ok-hash-in-Some.ensures.digest files reads) c.if-eq.ensures

pub returns-else-eq-clause-leaves : goal.returns-else-eq-clause-leaves
returns-else-eq-clause-leaves g c =
    validated_hands _ _ c.args.piece.now.file c.args.at c.in-Some.head
    (λ files reads. rw c.in-Some.is at (c.in_ok-head.ensures.found files reads))
    (λ files reads. rw c.in-Some.is at (c.in_ok-head.ensures.fields files reads))
    c.in_ok-head.ensures.leaves _ c.in_ok-hash-in-Some.ensures.leaves

-- only the bytes of the packet that come after the chunk are read to be hashed

pub returns-in_err-head-clause-rest : goal.returns-in_err-head-clause-rest
returns-in_err-head-clause-rest g c = λ begins.
    let same = err_from_is_err_and c.from_residual.result c.from_residual.ensures.1 in
    rw (same.1, same.2) (FaultsAfter-wider _ _ c.args.piece.now.file _ _ _ c.in_err-head.ensures.leaves (λ files reads. omega arith))

pub returns-in_err-hash-in-Some-clause-rest : goal.returns-in_err-hash-in-Some-clause-rest
returns-in_err-hash-in-Some-clause-rest g c = λ begins.
    let same = err_from_is_err_and c.from_residual-in_err-hash-in-Some.result c.from_residual-in_err-hash-in-Some.ensures.1 in
    rw (same.1, same.2)
    (validated_rest_fault _ _ c.args.piece.now.file c.args.at c.in-Some.head
    (λ files reads. rw c.in-Some.is at (c.in_ok-head.ensures.found files reads))
    (λ files reads. rw c.in-Some.is at (c.in_ok-head.ensures.fields files reads))
    c.in_ok-head.ensures.leaves _ _ _ (rw c.in-Some.is at c.in_ok-head.ensures.long)
    (c.in_err-hash-in-Some.ensures.rest (omega arith)))

pub returns-then-eq-clause-rest : goal.returns-then-eq-clause-rest
returns-then-eq-clause-rest g c = λ begins.
    validated_rest _ _ c.args.piece.now.file c.args.at c.in-Some.head
    (λ files reads. rw c.in-Some.is at (c.in_ok-head.ensures.found files reads))
    (λ files reads. rw c.in-Some.is at (c.in_ok-head.ensures.fields files reads))
    c.in_ok-head.ensures.leaves _ _ (rw c.in-Some.is at c.in_ok-head.ensures.long) (c.in_ok-hash-in-Some.ensures.rest (omega arith))

pub returns-else-eq-clause-rest : goal.returns-else-eq-clause-rest
returns-else-eq-clause-rest g c = λ begins.
    validated_rest _ _ c.args.piece.now.file c.args.at c.in-Some.head
    (λ files reads. rw c.in-Some.is at (c.in_ok-head.ensures.found files reads))
    (λ files reads. rw c.in-Some.is at (c.in_ok-head.ensures.fields files reads))
    c.in_ok-head.ensures.leaves _ _ (rw c.in-Some.is at c.in_ok-head.ensures.long) (c.in_ok-hash-in-Some.ensures.rest (omega arith))

pub returns-in-None-clause-rest : goal.returns-in-None-clause-rest
returns-in-None-clause-rest g c = λ begins.
    Hands-wider _ _ c.args.piece.now.file _ _ c.in_ok-head.ensures.leaves (λ files reads. omega arith)

pub returns-in_err-head-clause-fits : goal.returns-in_err-head-clause-fits
returns-in_err-head-clause-fits g c = grind (arith, common_steps) steps 100000

pub returns-in_err-head-clause-long : goal.returns-in_err-head-clause-long
returns-in_err-head-clause-long g c = grind (arith, common_steps) steps 100000

pub returns-in_err-head-clause-found : goal.returns-in_err-head-clause-found
returns-in_err-head-clause-found g c = grind (arith, common_steps) steps 100000

pub returns-in_err-head-clause-fields : goal.returns-in_err-head-clause-fields
returns-in_err-head-clause-fields g c = grind (arith, common_steps) steps 100000

pub returns-in_err-head-clause-leaves : goal.returns-in_err-head-clause-leaves
returns-in_err-head-clause-leaves g c =
    let same = err_from_is_err_and c.from_residual.result c.from_residual.ensures.1 in
    rw (same.1, same.2) (FaultsAfter-wider _ _ c.args.piece.now.file _ _ _ c.in_err-head.ensures.leaves (λ files reads. omega arith))

pub returns-in_err-hash-in-Some-clause-fits : goal.returns-in_err-hash-in-Some-clause-fits
returns-in_err-hash-in-Some-clause-fits g c = grind (arith, common_steps) steps 400000

pub returns-in_err-hash-in-Some-clause-long : goal.returns-in_err-hash-in-Some-clause-long
returns-in_err-hash-in-Some-clause-long g c = grind (arith, common_steps) steps 400000

pub returns-in_err-hash-in-Some-clause-found : goal.returns-in_err-hash-in-Some-clause-found
returns-in_err-hash-in-Some-clause-found g c = grind (arith, common_steps) steps 400000

pub returns-in_err-hash-in-Some-clause-fields : goal.returns-in_err-hash-in-Some-clause-fields
returns-in_err-hash-in-Some-clause-fields g c = grind (arith, common_steps) steps 400000

pub returns-then-eq-clause-fits : goal.returns-then-eq-clause-fits
returns-then-eq-clause-fits g c = grind (arith, common_steps) steps 400000

pub returns-then-eq-clause-long : goal.returns-then-eq-clause-long
returns-then-eq-clause-long g c = grind (arith, common_steps) steps 400000

pub returns-then-eq-clause-fields : goal.returns-then-eq-clause-fields
returns-then-eq-clause-fields g c = λ files reads.
    rw c.in-Some.is at (c.in_ok-head.ensures.fields files (c.in_ok-hash-in-Some.ensures.leaves.0.older files reads))

pub returns-else-eq-clause-fits : goal.returns-else-eq-clause-fits
returns-else-eq-clause-fits g c = grind (arith, common_steps) steps 100000

pub returns-else-eq-clause-long : goal.returns-else-eq-clause-long
returns-else-eq-clause-long g c = grind (arith, common_steps) steps 100000

pub returns-else-eq-clause-fields : goal.returns-else-eq-clause-fields
returns-else-eq-clause-fields g c = grind (arith, common_steps) steps 100000

pub returns-in-None-clause-fits : goal.returns-in-None-clause-fits
returns-in-None-clause-fits g c = grind (arith, common_steps) steps 100000

pub returns-in-None-clause-long : goal.returns-in-None-clause-long
returns-in-None-clause-long g c = grind (arith, common_steps) steps 100000

pub returns-in-None-clause-found : goal.returns-in-None-clause-found
returns-in-None-clause-found g c = λ files reads.
    unframed_no_packet (drop c.args.at (file_of files c.args.piece.now.file)) (rw c.in-None.is at (c.in_ok-head.ensures.found files reads))

pub returns-in-None-clause-fields : goal.returns-in-None-clause-fields
returns-in-None-clause-fields g c = grind (arith, common_steps) steps 100000

pub returns-in-None-clause-leaves : goal.returns-in-None-clause-leaves
returns-in-None-clause-leaves g c =
    Hands-wider _ _ c.args.piece.now.file _ _ c.in_ok-head.ensures.leaves (λ files reads. omega arith)

pub header_at-requires-clause-within : goal.header_at-requires-clause-within
header_at-requires-clause-within g c = grind (arith, common_steps) steps 100000

pub header_at-requires-clause-piece : goal.header_at-requires-clause-piece
header_at-requires-clause-piece g c = grind (arith, common_steps) steps 100000

pub overflow_sub-head : goal.overflow_sub-head
overflow_sub-head g c = grind (arith, common_steps) steps 100000

pub hash_at-requires-clause-within : goal.hash_at-requires-clause-within
hash_at-requires-clause-within g c = grind (arith, common_steps) steps 100000

pub hash_at-requires-clause-buffer : goal.hash_at-requires-clause-buffer
hash_at-requires-clause-buffer g c = grind (arith, common_steps) steps 100000

pub hash_at-requires-clause-piece : goal.hash_at-requires-clause-piece
hash_at-requires-clause-piece g c = IsPieceOf-read _ _ _ _ c.in_ok-head.ensures.leaves c.requires.piece

pub overflow_add-at : goal.overflow_add-at
overflow_add-at g c = grind (arith, common_steps, g.met.H.Shelf.well_formed)
