use Rattle.std.proofs.lemmas.Grind.{common_steps}
use Rattle.std.proofs.Common.{arith, length-drop}
use Rattle.std.proofs.lemmas.Result.{err_from_is_err_and}
use Rattle.parsalvage.proofs.HandLaws.{Hands-none, Hands-wider, FaultsAfter-wider}
use Rattle.parsalvage.proofs.body_store.BodyStore.extend_to.Goals as goal

pub returns-in_err-resize-clause-leaves : goal.returns-in_err-resize-clause-leaves
returns-in_err-resize-clause-leaves g c =
    let same = err_from_is_err_and c.from_residual.result c.from_residual.ensures.1 in
    rw (same.1, same.2) (Hands-none _ _ _)

pub returns-clause-leaves : goal.returns-clause-leaves
returns-clause-leaves g c =
    let room = length-drop c.len-held.result c.resize.new.self.items in
    Hands-wider _ _ c.args.piece.now.file _ _ c.in_ok-read.ensures.leaves
    (λ files reads. omega (arith, room, c.in_ok-resize.ensures.len, c.len-held.ensures))

pub overflow_sub-last : goal.overflow_sub-last
overflow_sub-last g c = grind (arith, common_steps) steps 100000

pub overflow_add-held : goal.overflow_add-held
overflow_add-held g c = grind (arith, common_steps) steps 100000

pub returns-in_err-resize-clause-start : goal.returns-in_err-resize-clause-start
returns-in_err-resize-clause-start g c = grind (arith, common_steps) steps 100000

pub returns-in_err-resize-clause-end : goal.returns-in_err-resize-clause-end
returns-in_err-resize-clause-end g c = grind (arith, common_steps) steps 100000

pub returns-in_err-resize-clause-len : goal.returns-in_err-resize-clause-len
returns-in_err-resize-clause-len g c = grind (arith, common_steps) steps 100000

pub returns-in_err-resize-clause-keeps : goal.returns-in_err-resize-clause-keeps
returns-in_err-resize-clause-keeps g c = grind (arith, common_steps) steps 100000

pub returns-in_err-resize-clause-bytes : goal.returns-in_err-resize-clause-bytes
returns-in_err-resize-clause-bytes g c = grind (arith, common_steps) steps 100000

pub slice_bounds-read-count : goal.slice_bounds-read-count
slice_bounds-read-count g c = grind (arith, common_steps) steps 100000

pub slice_bounds-read-start : goal.slice_bounds-read-start
slice_bounds-read-start g c = grind (arith, common_steps) steps 100000

pub slice_bounds-read-end : goal.slice_bounds-read-end
slice_bounds-read-end g c = grind (arith, common_steps) steps 100000

pub read-requires-clause-within : goal.read-requires-clause-within
read-requires-clause-within g c = grind (arith, common_steps) steps 400000

pub read-requires-clause-piece : goal.read-requires-clause-piece
read-requires-clause-piece g c = c.requires.piece

pub returns-in_err-read-clause-start : goal.returns-in_err-read-clause-start
returns-in_err-read-clause-start g c = grind (arith, common_steps) steps 400000

pub returns-in_err-read-clause-end : goal.returns-in_err-read-clause-end
returns-in_err-read-clause-end g c = grind (arith, common_steps) steps 400000

pub returns-in_err-read-clause-len : goal.returns-in_err-read-clause-len
returns-in_err-read-clause-len g c = grind (arith, common_steps) steps 1500000

pub returns-in_err-read-clause-keeps : goal.returns-in_err-read-clause-keeps
returns-in_err-read-clause-keeps g c =
    let same = err_from_is_err_and c.from_residual-in_err-read.result c.from_residual-in_err-read.ensures.1 in
    rw same.1 tt

pub returns-in_err-read-clause-bytes : goal.returns-in_err-read-clause-bytes
returns-in_err-read-clause-bytes g c =
    let same = err_from_is_err_and c.from_residual-in_err-read.result c.from_residual-in_err-read.ensures.1 in
    λ files reads. rw same.1 tt

pub returns-in_err-read-clause-leaves : goal.returns-in_err-read-clause-leaves
returns-in_err-read-clause-leaves g c =
    let same = err_from_is_err_and c.from_residual-in_err-read.result c.from_residual-in_err-read.ensures.1 in
    let room = length-drop c.len-held.result c.resize.new.self.items in
    rw (same.1, same.2) (FaultsAfter-wider _ _ c.args.piece.now.file _ _ _ c.in_err-read.ensures.leaves
    (λ files reads. omega (arith, room, c.in_ok-resize.ensures.len, c.len-held.ensures)))

pub returns-clause-start : goal.returns-clause-start
returns-clause-start g c = grind (arith, common_steps) steps 100000

pub returns-clause-end : goal.returns-clause-end
returns-clause-end g c = grind (arith, common_steps) steps 100000

pub returns-clause-len : goal.returns-clause-len
returns-clause-len g c = grind (arith, common_steps) steps 1500000

pub returns-clause-keeps : goal.returns-clause-keeps
returns-clause-keeps g c = grind (arith, common_steps) steps 1500000

pub returns-clause-bytes : goal.returns-clause-bytes
returns-clause-bytes g c = λ files reads.
    let read = c.in_ok-read.ensures.bytes files reads in grind (arith, common_steps, read) steps 1500000
