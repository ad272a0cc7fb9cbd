use Rattle.std.proofs.lemmas.Grind.{common_steps}
use Rattle.std.proofs.Common.{◌≡◌, ◌≤◌, ◌+◌, ◌*◌, ◌∙◌, ℕ, List, drop, false, true, sym, ap, arith}
use Rattle.std.proofs.lemmas.Result.{err_from_is_err_and}
use Rattle.parfield.specs.declared.headers.Header.{Header}
use Rattle.parfield.specs.Packet.{header_of}
use Rattle.parshelf.specs.Shelf.{file_of}
use Rattle.parshelf.proofs.ShelfLaws.{length-file_of}
use Rattle.parsalvage.specs.MagicPlaces.{framed_size}
use Rattle.parsalvage.specs.Packets.{is_packet_at}
use Rattle.parsalvage.proofs.ValidateLaws.{framed_packet}
use Rattle.parsalvage.proofs.HandLaws.{Hands-none, Hands-wider, FaultsAfter-wider, SalvagesAtMost-more, SalvagesAtMost-older}
use Rattle.parsalvage.proofs.PieceLaws.{IsPieceOf-read}
use Rattle.parsalvage.proofs.ScanLaws.{FoundBelow-none, no_packet_late}
use Rattle.parsalvage.proofs.file_scan.FileScan.scan_at.Goals as goal

pub returns-then-length-at-lt64-clause-found : goal.returns-then-length-at-lt64-clause-found
returns-then-length-at-lt64-clause-found g c = λ files reads.
    let long = length-file_of _ files c.args.piece.now.file reads in
    FoundBelow-none c.args.piece.now.file c.args.at (c.args.at + 1) _ _ (c.requires.found files reads) (omega arith)
    (λ k low high. no_packet_late (file_of files c.args.piece.now.file) k (omega (arith, long, c.length.ensures.value)))

pub returns-then-length-at-lt64-clause-leaves : goal.returns-then-length-at-lt64-clause-leaves
returns-then-length-at-lt64-clause-leaves g c = Hands-none _ _ _

-- the bound on bytes read: 64 for the header and one length for the hash, and then
-- one length for the body

costs : (bytes : List ℕ) (at : ℕ) (head : Header) → head ≡ header_of (drop at bytes) → true ≡ is_packet_at bytes at
    → (64 + framed_size (drop at bytes)) + head.length ≤ 64 + 2 * framed_size (drop at bytes)
costs bytes at head fields is =
    let length_is = ap (λ (h : Header). h.length) fields in
    omega (arith, length_is, framed_packet (drop at bytes) (sym is))

pub returns-in-Some-clause-found : goal.returns-in-Some-clause-found
returns-in-Some-clause-found g c = c.store_packet.ensures.found

pub returns-in-Some-clause-leaves : goal.returns-in-Some-clause-leaves
returns-in-Some-clause-leaves g c =
    SalvagesAtMost-more _ _ _ c.args.piece.now.file _ _ _ c.store_packet.result c.in_ok-head.ensures.leaves c.store_packet.ensures.leaves
    (λ files reads. costs (file_of files c.args.piece.now.file) c.args.at c.in-Some.head
    (rw c.in-Some.is at (c.in_ok-head.ensures.fields files reads)) (rw c.in-Some.is at (c.in_ok-head.ensures.found files reads)))

pub returns-in-Some-clause-memory : goal.returns-in-Some-clause-memory
returns-in-Some-clause-memory g c = λ files reads _.
    let was = SalvagesAtMost-older _ _ c.args.piece.now.file _ c.store_packet.result c.store_packet.ensures.leaves files reads in
    sym (rw c.in-Some.is at (c.in_ok-head.ensures.found files was))

pub returns-in-None-clause-found : goal.returns-in-None-clause-found
returns-in-None-clause-found g c = λ files reads.
    let none : false ≡ is_packet_at (file_of files c.args.piece.now.file) c.args.at
    = rw c.in-None.is at (c.in_ok-head.ensures.found files reads) in
    FoundBelow-none c.args.piece.now.file c.args.at (c.args.at + 1) _ _
    (c.requires.found files (c.in_ok-head.ensures.leaves.0.older files reads)) (omega arith)
    (λ k low high.
    let here : k ≡ c.args.at = omega arith in
    ap (is_packet_at (file_of files c.args.piece.now.file)) here ∙ sym none)

pub overflow_sub-length : goal.overflow_sub-length
overflow_sub-length g c = grind (arith, common_steps) steps 100000

pub returns-then-length-at-lt64-clause-lies : goal.returns-then-length-at-lt64-clause-lies
returns-then-length-at-lt64-clause-lies g c = grind (arith, common_steps) steps 1500000

pub validate-requires-clause-within : goal.validate-requires-clause-within
validate-requires-clause-within g c = grind (arith, common_steps) steps 100000

pub validate-requires-clause-buffer : goal.validate-requires-clause-buffer
validate-requires-clause-buffer g c = grind (arith, common_steps) steps 100000

pub validate-requires-clause-piece : goal.validate-requires-clause-piece
validate-requires-clause-piece g c = grind (arith, common_steps) steps 100000

pub returns-in_err-head-clause-lies : goal.returns-in_err-head-clause-lies
returns-in_err-head-clause-lies g c = grind (arith, common_steps) steps 100000

pub returns-in_err-head-clause-found : goal.returns-in_err-head-clause-found
returns-in_err-head-clause-found g c = grind (arith, common_steps) steps 100000

pub returns-in_err-head-clause-leaves : goal.returns-in_err-head-clause-leaves
returns-in_err-head-clause-leaves g c =
    let same = err_from_is_err_and c.from_residual.result c.from_residual.ensures.1 in
    rw (same.1, same.2) (FaultsAfter-wider _ _ c.args.piece.now.file _ _ _ c.in_err-head.ensures.leaves (λ files reads. omega arith))

pub store_packet-requires-clause-within : goal.store_packet-requires-clause-within
store_packet-requires-clause-within g c = grind (arith, common_steps) steps 100000

pub store_packet-requires-clause-long : goal.store_packet-requires-clause-long
store_packet-requires-clause-long g c = grind (arith, common_steps) steps 100000

pub store_packet-requires-clause-piece : goal.store_packet-requires-clause-piece
store_packet-requires-clause-piece g c = IsPieceOf-read _ _ _ _ c.in_ok-head.ensures.leaves c.requires.piece

pub store_packet-requires-clause-packet : goal.store_packet-requires-clause-packet
store_packet-requires-clause-packet g c = λ files reads.
    sym (rw c.in-Some.is at (c.in_ok-head.ensures.found files reads))

pub store_packet-requires-clause-fields : goal.store_packet-requires-clause-fields
store_packet-requires-clause-fields g c = λ files reads.
    rw c.in-Some.is at (c.in_ok-head.ensures.fields files reads)

pub store_packet-requires-clause-lies : goal.store_packet-requires-clause-lies
store_packet-requires-clause-lies g c = grind (arith, common_steps) steps 100000

pub store_packet-requires-clause-found : goal.store_packet-requires-clause-found
store_packet-requires-clause-found g c = λ files reads.
    c.requires.found files (c.in_ok-head.ensures.leaves.0.older files reads)

pub returns-in-Some-clause-lies : goal.returns-in-Some-clause-lies
returns-in-Some-clause-lies g c = grind (arith, common_steps) steps 100000

pub returns-in-None-clause-lies : goal.returns-in-None-clause-lies
returns-in-None-clause-lies g c = grind (arith, common_steps) steps 1500000

pub returns-in-None-clause-leaves : goal.returns-in-None-clause-leaves
returns-in-None-clause-leaves g c = Hands-wider _ _ c.args.piece.now.file _ _ c.in_ok-head.ensures.leaves (λ files reads. omega arith)
