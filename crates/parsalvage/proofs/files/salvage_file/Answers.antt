use Rattle.std.proofs.Common.{refl, arith, ◌∙◌}
use Rattle.std.proofs.lemmas.Result.{err_from_is_err_and}
use Rattle.std.proofs.lemmas.Grind.{common_steps}
use Rattle.parshelf.proofs.ShelfLaws.{length-file_of}
use Rattle.parsalvage.proofs.HandLaws.{Hands-counted, not_memory}
use Rattle.parsalvage.proofs.FoundLaws.{found_all, found_none, found_inside}
use Rattle.parsalvage.proofs.files.salvage_file.Goals as goal

pub returns-clause-kept : goal.returns-clause-kept
returns-clause-kept g c = λ files reads.
    let long = length-file_of _ files c.args.file (c.in_ok-found.ensures.leaves.0.older files reads) in
    c.in_ok-keep_found.ensures.kept ∙ found_all _ _ _ _ (c.in_ok-found.ensures.found files reads) long

pub returns-clause-inside : goal.returns-clause-inside
returns-clause-inside g c = found_inside _ _ _ _ c.in_ok-found.ensures.lies c.in_ok-keep_found.ensures.kept

-- memory is taken only if there is a packet, so if it was refused there is one

pub returns-in_err-keep_found-clause-empty : goal.returns-in_err-keep_found-clause-empty
returns-in_err-keep_found-clause-empty g c = λ files reads none _.
    let long = length-file_of _ files c.args.file (c.in_ok-found.ensures.leaves.0.older files reads) in
    c.in_err-keep_found.ensures.some (found_none _ _ _ _ (c.in_ok-found.ensures.found files reads) long none)

pub slice_bounds-search_file-end : goal.slice_bounds-search_file-end
slice_bounds-search_file-end g c = grind (arith, common_steps) steps 100000

pub search_file-requires-clause-file : goal.search_file-requires-clause-file
search_file-requires-clause-file g c = grind (arith, common_steps) steps 100000

pub search_file-requires-clause-buffer : goal.search_file-requires-clause-buffer
search_file-requires-clause-buffer g c = grind (arith, common_steps) steps 100000

pub returns-in_err-found-clause-kept : goal.returns-in_err-found-clause-kept
returns-in_err-found-clause-kept g c = grind (arith, common_steps) steps 400000

pub returns-in_err-found-clause-inside : goal.returns-in_err-found-clause-inside
returns-in_err-found-clause-inside g c = grind (arith, common_steps) steps 400000

pub returns-in_err-found-clause-leaves : goal.returns-in_err-found-clause-leaves
returns-in_err-found-clause-leaves g c = grind (arith, common_steps) steps 400000

pub returns-in_err-found-clause-bound : goal.returns-in_err-found-clause-bound
returns-in_err-found-clause-bound g c = Hands-counted _ _ c.args.file _ c.in_err-found.ensures.leaves.1

pub returns-in_err-found-clause-empty : goal.returns-in_err-found-clause-empty
returns-in_err-found-clause-empty g c =
    let same = err_from_is_err_and c.from_residual.result c.from_residual.ensures.1 in
    rw (same.1, same.2) (λ files reads none. not_memory _ _ _ refl refl (c.in_err-found.ensures.empty files reads none))

pub keep_found-requires : goal.keep_found-requires
keep_found-requires g c = grind (arith, common_steps) steps 400000

pub returns-in_err-keep_found-clause-kept : goal.returns-in_err-keep_found-clause-kept
returns-in_err-keep_found-clause-kept g c = grind (arith, common_steps) steps 400000

pub returns-in_err-keep_found-clause-inside : goal.returns-in_err-keep_found-clause-inside
returns-in_err-keep_found-clause-inside g c = grind (arith, common_steps) steps 400000

pub returns-in_err-keep_found-clause-leaves : goal.returns-in_err-keep_found-clause-leaves
returns-in_err-keep_found-clause-leaves g c = grind (arith, common_steps) steps 400000

pub returns-in_err-keep_found-clause-bound : goal.returns-in_err-keep_found-clause-bound
returns-in_err-keep_found-clause-bound g c = Hands-counted _ _ c.args.file _ c.in_ok-found.ensures.leaves.1

pub returns-clause-leaves : goal.returns-clause-leaves
returns-clause-leaves g c = grind (arith, common_steps) steps 400000

pub returns-clause-bound : goal.returns-clause-bound
returns-clause-bound g c = Hands-counted _ _ c.args.file _ c.in_ok-found.ensures.leaves.1

pub returns-clause-empty : goal.returns-clause-empty
returns-clause-empty g c = grind (arith, common_steps) steps 100000
