use Rattle.std.proofs.lemmas.Result.{err_from_is_err_and}
use Rattle.std.proofs.lemmas.Grind.{common_steps}
use Rattle.std.proofs.Common.{refl, rules, arith}
use Rattle.parsalvage.proofs.HandLaws.{Hands-wider, StopsAfter-wider}
use Rattle.parsalvage.specs.declared.file_scan.FileScan.{FileScan}
use Rattle.parsalvage.specs.declared.stored.StoredPacket.{StoredPacket}
use Rattle.parsalvage.proofs.ScanLaws.{LiesIn-more, FoundBelow-packet, stored_packet}
use Rattle.parsalvage.proofs.file_scan.FileScan.store_packet.Goals as goal

pub returns-clause-lies : goal.returns-clause-lies
returns-clause-lies g c =
    let held = c.in_ok-body.ensures in
    let new : FileScan = record { packets = c.push.new.self; bodies = c.hold_body.new.self } in
    let packet : StoredPacket = record { at = c.args.at; length = c.args.head.length; set = c.args.head.set; kind = c.args.head.kind; body = c.in_ok-body.body } in
    LiesIn-more _ c.args.at c.args.self.now new packet c.requires.lies held.store held.begins held.fits held.keeps
    (search rules) refl (omega arith)

pub returns-clause-found : goal.returns-clause-found
returns-clause-found g c = λ files reads.
    let was = c.in_ok-body.ensures.leaves.0.older files reads in
    let held = c.in_ok-body.ensures in
    let new : FileScan = record { packets = c.push.new.self; bodies = c.hold_body.new.self } in
    let packet : StoredPacket = record { at = c.args.at; length = c.args.head.length; set = c.args.head.set; kind = c.args.head.kind; body = c.in_ok-body.body } in
    FoundBelow-packet c.args.piece.now.file c.args.at _ c.args.self.now new packet (c.requires.found files was) (c.requires.packet files was)
    (held.run files reads) held.keeps c.requires.lies.held (search rules)
    (stored_packet c.args.piece.now.file c.args.at _ c.hold_body.new.self.bytes.items c.args.head packet (c.requires.fields files was) refl refl refl refl (held.body files reads))

pub hold_body-requires-clause-within : goal.hold_body-requires-clause-within
hold_body-requires-clause-within g c = grind (arith, common_steps) steps 100000

pub hold_body-requires-clause-later : goal.hold_body-requires-clause-later
hold_body-requires-clause-later g c = grind (arith, common_steps) steps 100000

pub hold_body-requires-clause-store : goal.hold_body-requires-clause-store
hold_body-requires-clause-store g c = grind (arith, common_steps) steps 100000

pub hold_body-requires-clause-piece : goal.hold_body-requires-clause-piece
hold_body-requires-clause-piece g c = grind (arith, common_steps) steps 100000

pub hold_body-requires-clause-run : goal.hold_body-requires-clause-run
hold_body-requires-clause-run g c = λ files reads. (c.requires.found files reads).run

pub returns-in_err-body-clause-lies : goal.returns-in_err-body-clause-lies
returns-in_err-body-clause-lies g c = grind (arith, common_steps) steps 100000

pub returns-in_err-body-clause-found : goal.returns-in_err-body-clause-found
returns-in_err-body-clause-found g c = grind (arith, common_steps) steps 400000

pub returns-in_err-body-clause-leaves : goal.returns-in_err-body-clause-leaves
returns-in_err-body-clause-leaves g c =
    let same = err_from_is_err_and c.from_residual.result c.from_residual.ensures.1 in
    rw (same.1, same.2) (StopsAfter-wider _ _ c.args.piece.now.file _ _ _ c.in_err-body.ensures.leaves (λ files reads. omega arith))

pub returns-then-is_err-clause-lies : goal.returns-then-is_err-clause-lies
returns-then-is_err-clause-lies g c = grind (arith, common_steps) steps 100000

pub returns-then-is_err-clause-found : goal.returns-then-is_err-clause-found
returns-then-is_err-clause-found g c = grind (arith, common_steps) steps 100000

pub returns-then-is_err-clause-leaves : goal.returns-then-is_err-clause-leaves
returns-then-is_err-clause-leaves g c = Hands-wider _ _ c.args.piece.now.file _ _ c.in_ok-body.ensures.leaves (λ files reads. omega arith)

pub returns-clause-leaves : goal.returns-clause-leaves
returns-clause-leaves g c = Hands-wider _ _ c.args.piece.now.file _ _ c.in_ok-body.ensures.leaves (λ files reads. omega arith)
