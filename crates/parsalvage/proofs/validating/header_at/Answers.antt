use Rattle.std.proofs.lemmas.Result.{err_from_is_err_and}
use Rattle.std.proofs.lemmas.Grind.{common_steps}
use Rattle.std.proofs.Common.{ℕ, List, ◌≤◌, ◌∙◌, arith, length, length-drop, drop}
use Rattle.parshelf.specs.Shelf.{file_of}
use Rattle.parshelf.proofs.ShelfLaws.{length-file_of}
use Rattle.parsalvage.proofs.FrontLaws.{framed_yes, framed_no_header, framed_too_long, fields_same}
use Rattle.parsalvage.proofs.validating.header_at.Goals as goal

pub returns-then-head-room-clause-leaves : goal.returns-then-head-room-clause-leaves
returns-then-head-room-clause-leaves g c = c.in_ok-read.ensures.leaves

pub returns-else-head-room-clause-leaves : goal.returns-else-head-room-clause-leaves
returns-else-head-room-clause-leaves g c = c.in_ok-read.ensures.leaves

pub returns-in_default-clause-found : goal.returns-in_default-clause-found
returns-in_default-clause-found g c = λ files reads.
    let bytes : List ℕ = file_of files c.args.piece.now.file in
    let size = length-file_of _ files c.args.piece.now.file (c.in_ok-read.ensures.leaves.0.older files reads) in
    let long : 64 ≤ length (drop c.args.at bytes) = omega (arith, length-drop c.args.at bytes, size) in
    framed_no_header (drop c.args.at bytes) _ (c.in_ok-read.ensures.bytes files reads) long c.in_default.ensures.found

pub returns-then-head-room-clause-found : goal.returns-then-head-room-clause-found
returns-then-head-room-clause-found g c = λ files reads.
    let bytes : List ℕ = file_of files c.args.piece.now.file in
    let size = length-file_of _ files c.args.piece.now.file (c.in_ok-read.ensures.leaves.0.older files reads) in
    let rest = length-drop c.args.at bytes in
    let long : 64 ≤ length (drop c.args.at bytes) = omega (arith, rest, size) in
    framed_yes (drop c.args.at bytes) _ (c.in_ok-read.ensures.bytes files reads) long c.in-Ok.head
    c.in-Ok.ensures.found c.in-Ok.ensures.fields (omega (arith, rest, size, c.if-head-room.true, c.length.ensures.value))

pub returns-then-head-room-clause-fields : goal.returns-then-head-room-clause-fields
returns-then-head-room-clause-fields g c = λ files reads.
    let bytes : List ℕ = file_of files c.args.piece.now.file in
    let size = length-file_of _ files c.args.piece.now.file (c.in_ok-read.ensures.leaves.0.older files reads) in
    let long : 64 ≤ length (drop c.args.at bytes) = omega (arith, length-drop c.args.at bytes, size) in
    c.in-Ok.ensures.fields ∙ fields_same (drop c.args.at bytes) _ (c.in_ok-read.ensures.bytes files reads) long

pub returns-else-head-room-clause-found : goal.returns-else-head-room-clause-found
returns-else-head-room-clause-found g c = λ files reads.
    let bytes : List ℕ = file_of files c.args.piece.now.file in
    let size = length-file_of _ files c.args.piece.now.file (c.in_ok-read.ensures.leaves.0.older files reads) in
    let rest = length-drop c.args.at bytes in
    let long : 64 ≤ length (drop c.args.at bytes) = omega (arith, rest, size) in
    framed_too_long (drop c.args.at bytes) _ (c.in_ok-read.ensures.bytes files reads) long c.in-Ok.head
    c.in-Ok.ensures.fields (omega (arith, rest, size, c.if-head-room.false, c.length.ensures.value))

pub returns-then-head-room-clause-fits : goal.returns-then-head-room-clause-fits
returns-then-head-room-clause-fits g c = omega (arith, c.if-head-room.true, c.length.ensures.value)

pub returns-in_err-read-clause-fits : goal.returns-in_err-read-clause-fits
returns-in_err-read-clause-fits g c = grind (arith, common_steps) steps 100000

pub returns-in_err-read-clause-long : goal.returns-in_err-read-clause-long
returns-in_err-read-clause-long g c = grind (arith, common_steps) steps 100000

pub returns-in_err-read-clause-found : goal.returns-in_err-read-clause-found
returns-in_err-read-clause-found g c =
    let same = err_from_is_err_and c.from_residual.result c.from_residual.ensures.1 in
    λ files reads. rw same.1 tt

pub returns-in_err-read-clause-fields : goal.returns-in_err-read-clause-fields
returns-in_err-read-clause-fields g c =
    let same = err_from_is_err_and c.from_residual.result c.from_residual.ensures.1 in
    λ files reads. rw same.1 tt

pub returns-in_err-read-clause-leaves : goal.returns-in_err-read-clause-leaves
returns-in_err-read-clause-leaves g c = grind (arith, common_steps) steps 100000

pub returns-in_default-clause-fits : goal.returns-in_default-clause-fits
returns-in_default-clause-fits g c = grind (arith, common_steps) steps 100000

pub returns-in_default-clause-long : goal.returns-in_default-clause-long
returns-in_default-clause-long g c = grind (arith, common_steps) steps 100000

pub returns-in_default-clause-fields : goal.returns-in_default-clause-fields
returns-in_default-clause-fields g c = grind (arith, common_steps) steps 100000

pub returns-in_default-clause-leaves : goal.returns-in_default-clause-leaves
returns-in_default-clause-leaves g c = grind (arith, common_steps) steps 100000

pub returns-then-head-room-clause-long : goal.returns-then-head-room-clause-long
returns-then-head-room-clause-long g c = grind (arith, common_steps) steps 1500000

pub returns-else-head-room-clause-fits : goal.returns-else-head-room-clause-fits
returns-else-head-room-clause-fits g c = grind (arith, common_steps) steps 100000

pub returns-else-head-room-clause-long : goal.returns-else-head-room-clause-long
returns-else-head-room-clause-long g c = grind (arith, common_steps) steps 100000

pub returns-else-head-room-clause-fields : goal.returns-else-head-room-clause-fields
returns-else-head-room-clause-fields g c = grind (arith, common_steps) steps 100000

pub overflow_sub-room : goal.overflow_sub-room
overflow_sub-room g c = grind (arith, common_steps) steps 100000

pub slice_bounds-read-end : goal.slice_bounds-read-end
slice_bounds-read-end g c = grind (arith, common_steps) steps 100000

pub read-requires-clause-within : goal.read-requires-clause-within
read-requires-clause-within g c = grind (arith, common_steps) steps 100000

pub read-requires-clause-piece : goal.read-requires-clause-piece
read-requires-clause-piece g c = grind (arith, common_steps) steps 100000

pub slice_bounds-header-end : goal.slice_bounds-header-end
slice_bounds-header-end g c = grind (arith, common_steps) steps 100000
