use Rattle.std.proofs.lemmas.Result.{err_from_is_err_and}
use Rattle.std.proofs.lemmas.Grind.{common_steps}
use Rattle.std.proofs.Common.{◌≡◌, ◌-◌, ◌∙◌, ℕ, List, length, take, drop, ap, arith, rules}
use Rattle.parshelf.specs.Shelf.{file_of}
use Rattle.parsalvage.proofs.HandLaws.{Hands-wider, StopsAfter-wider}
use Rattle.parsalvage.proofs.BodyLaws.{run_more, run_part}
use Rattle.parsalvage.proofs.body_store.BodyStore.hold.Goals as goal

pub returns-clause-run : goal.returns-clause-run
returns-clause-run g c = λ files reads.
    let file : List ℕ = file_of files c.args.piece.now.file in
    let before = c.reach.ensures.run file (c.requires.run files (c.in_ok-extend_to.ensures.leaves.0.older files reads)) in
    let store = c.reach.ensures.store _ (omega arith) c.requires.store in
    let after = c.in_ok-extend_to.ensures in
    rw (after.start, after.end)
    (run_more file c.reach.new.self.bytes.items c.extend_to.new.self.bytes.items c.reach.new.self.start c.reach.new.self.end _
    before store.rising store.fits (omega arith) after.keeps (after.bytes files reads) after.len)

pub returns-clause-part : goal.returns-clause-part
returns-clause-part g c = λ files reads.
    let file : List ℕ = file_of files c.args.piece.now.file in
    let before = c.reach.ensures.run file (c.requires.run files (c.in_ok-extend_to.ensures.leaves.0.older files reads)) in
    let store = c.reach.ensures.store _ (omega arith) c.requires.store in
    let after = c.in_ok-extend_to.ensures in
    let whole = run_more file c.reach.new.self.bytes.items c.extend_to.new.self.bytes.items c.reach.new.self.start c.reach.new.self.end c.max-last.result
    before store.rising store.fits (omega arith) after.keeps (after.bytes files reads) after.len in
    let count : c.len.result ≡ length c.extend_to.new.self.bytes.items = search rules in
    let end : c.extend_to.new.self.end ≡ c.max-last.result = after.end in
    ap (λ (n : ℕ). take c.args.size (drop (n - (c.extend_to.new.self.end - c.args.from)) c.extend_to.new.self.bytes.items)) count
    ∙ (ap (λ (n : ℕ). take c.args.size (drop (length c.extend_to.new.self.bytes.items - (n - c.args.from)) c.extend_to.new.self.bytes.items)) end
    ∙ run_part file c.extend_to.new.self.bytes.items c.reach.new.self.start c.max-last.result c.args.from c.args.size whole
    (omega (arith, after.len, store.fits)) c.reach.ensures.low (omega arith))

pub returns-in_err-extend_to-clause-store : goal.returns-in_err-extend_to-clause-store
returns-in_err-extend_to-clause-store g c = grind (arith, common_steps) steps 100000

pub returns-in_err-extend_to-clause-begins : goal.returns-in_err-extend_to-clause-begins
returns-in_err-extend_to-clause-begins g c = grind (arith, common_steps) steps 100000

pub returns-in_err-extend_to-clause-fits : goal.returns-in_err-extend_to-clause-fits
returns-in_err-extend_to-clause-fits g c = grind (arith, common_steps) steps 100000

pub returns-in_err-extend_to-clause-keeps : goal.returns-in_err-extend_to-clause-keeps
returns-in_err-extend_to-clause-keeps g c = grind (arith, common_steps) steps 100000

pub returns-in_err-extend_to-clause-run : goal.returns-in_err-extend_to-clause-run
returns-in_err-extend_to-clause-run g c = grind (arith, common_steps) steps 400000

pub returns-in_err-extend_to-clause-part : goal.returns-in_err-extend_to-clause-part
returns-in_err-extend_to-clause-part g c = grind (arith, common_steps) steps 100000

pub returns-in_err-extend_to-clause-leaves : goal.returns-in_err-extend_to-clause-leaves
returns-in_err-extend_to-clause-leaves g c =
    let same = err_from_is_err_and c.from_residual.result c.from_residual.ensures.1 in
    rw (same.1, same.2) (StopsAfter-wider _ _ c.args.piece.now.file _ _ _ c.in_err-extend_to.ensures.leaves (λ files reads. omega arith))

pub returns-clause-begins : goal.returns-clause-begins
returns-clause-begins g c = grind (arith, common_steps) steps 100000

pub returns-clause-keeps : goal.returns-clause-keeps
returns-clause-keeps g c = grind (arith, common_steps) steps 100000

pub returns-clause-leaves : goal.returns-clause-leaves
returns-clause-leaves g c = Hands-wider _ _ c.args.piece.now.file _ _ c.in_ok-extend_to.ensures.leaves (λ files reads. omega arith)

pub reach-requires : goal.reach-requires
reach-requires g c = grind (arith, common_steps) steps 100000

pub overflow_add-from : goal.overflow_add-from
overflow_add-from g c = grind (arith, common_steps) steps 1500000

pub extend_to-requires-clause-more : goal.extend_to-requires-clause-more
extend_to-requires-clause-more g c = grind (arith, common_steps) steps 100000

pub extend_to-requires-clause-piece : goal.extend_to-requires-clause-piece
extend_to-requires-clause-piece g c = grind (arith, common_steps) steps 100000

pub overflow_sub-result : goal.overflow_sub-result
overflow_sub-result g c = grind (arith, common_steps) steps 100000

pub extend_to-requires-clause-within : goal.extend_to-requires-clause-within
extend_to-requires-clause-within g c = search rules steps 300000

pub extend_to-requires-clause-short : goal.extend_to-requires-clause-short
extend_to-requires-clause-short g c = search rules steps 300000

pub overflow_sub-result-2 : goal.overflow_sub-result-2
overflow_sub-result-2 g c = search rules steps 2000000

pub returns-clause-store : goal.returns-clause-store
returns-clause-store g c = search rules steps 2000000

pub returns-clause-fits : goal.returns-clause-fits
returns-clause-fits g c = search rules steps 2000000
