use Rattle.std.proofs.lemmas.Grind.{elements, common_steps}
use Rattle.std.proofs.Common.{◌≡◌, refl, arith}
use Rattle.std.proofs.lemmas.Result.{err_from_is_err_and}
use Rattle.memchr.specs.Find.{matches}
use Rattle.parfield.specs.Packet.{magic_bytes}
use Rattle.parsalvage.proofs.PieceLaws.{IsPieceOf-read}
use Rattle.parsalvage.proofs.SearchLaws.{some_packet, SearchedTo-start, SearchedTo-next, SearchedTo-fault, place_fits, place_within, lies_before, packets_before, lies_after, packets_after, hands_after}
use Rattle.parsalvage.proofs.searching.search_piece.Goals as goal

pub loop-place-init : goal.loop-place-init
loop-place-init g c =
    let is : c.into_iter-place-iterator.result ≡ matches c.args.piece.now.bytes.now magic_bytes 0
    = rw (c.into_iter-place-iterator.ensures.into_iter_gives, c.find_iter-place-items.ensures.value) refl in
    rw is (SearchedTo-start _ _ _ _ _ c.requires.lies c.requires.found)

pub overflow_add-piece : goal.overflow_add-piece
overflow_add-piece g c =
    let so_far = rw c.in-Some.ensures.steps at c.loop-place.invariant in
    let fits = place_fits _ _ _ _ _ c.in-Some.place _ _ c.requires.piece.is_piece so_far in
    let short = (g.met.H.Shelf.well_formed c.args.shelf.now).short c.args.piece.now.file 0 c.requires.piece.known in
    omega (arith, fits, short)

pub scan_at-requires-clause-within : goal.scan_at-requires-clause-within
scan_at-requires-clause-within g c =
    let so_far = rw c.in-Some.ensures.steps at c.loop-place.invariant in
    place_within _ _ _ _ _ c.in-Some.place _ _ c.requires.piece.is_piece so_far c.requires.within

pub scan_at-requires-clause-lies : goal.scan_at-requires-clause-lies
scan_at-requires-clause-lies g c =
    let so_far = rw c.in-Some.ensures.steps at c.loop-place.invariant in
    lies_before _ _ _ _ _ c.in-Some.place _ _ c.requires.piece.is_piece so_far

pub scan_at-requires-clause-found : goal.scan_at-requires-clause-found
scan_at-requires-clause-found g c =
    let so_far = rw c.in-Some.ensures.steps at c.loop-place.invariant in
    packets_before _ _ _ _ _ c.in-Some.place _ _ c.requires.piece.is_piece so_far

pub loop-place-preserved : goal.loop-place-preserved
loop-place-preserved g c =
    let so_far = rw c.in-Some.ensures.steps at c.loop-place.invariant in
    SearchedTo-next _ _ _ _ _ c.in-Some.place _ _ c.requires.piece.is_piece so_far _ _
    c.in_ok-scan_at.ensures.lies c.in_ok-scan_at.ensures.found c.in_ok-scan_at.ensures.leaves

pub returns-in_err-scan_at-clause-leaves : goal.returns-in_err-scan_at-clause-leaves
returns-in_err-scan_at-clause-leaves g c =
    let same = err_from_is_err_and c.from_residual.result c.from_residual.ensures.1 in
    let so_far = rw c.in-Some.ensures.steps at c.loop-place.invariant in
    rw (same.1, same.2) (SearchedTo-fault _ _ _ _ _ c.in-Some.place _ _ c.requires.piece.is_piece so_far _ _ c.in_err-scan_at.ensures.leaves)

pub returns-in_err-scan_at-clause-empty : goal.returns-in_err-scan_at-clause-empty
returns-in_err-scan_at-clause-empty g c =
    let same = err_from_is_err_and c.from_residual.result c.from_residual.ensures.1 in
    rw (same.1, same.2) (λ files reads none wants. some_packet _ _ (c.in_err-scan_at.ensures.memory files reads wants) none)

pub returns-clause-found : goal.returns-clause-found
returns-clause-found g c =
    packets_after _ _ _ _ _ _ c.requires.piece.is_piece (rw c.in-None.ensures.steps.0 at c.loop-place.invariant)

pub returns-clause-leaves : goal.returns-clause-leaves
returns-clause-leaves g c =
    hands_after _ _ _ _ _ _ c.requires.piece.is_piece (rw c.in-None.ensures.steps.0 at c.loop-place.invariant)

pub next-requires : goal.next-requires
next-requires g c = grind (arith, common_steps) steps 100000

pub scan_at-requires-clause-buffer : goal.scan_at-requires-clause-buffer
scan_at-requires-clause-buffer g c = grind (arith, common_steps) steps 400000

pub scan_at-requires-clause-piece : goal.scan_at-requires-clause-piece
scan_at-requires-clause-piece g c =
    let so_far = rw c.in-Some.ensures.steps at c.loop-place.invariant in
    IsPieceOf-read _ _ _ _ so_far.hands c.requires.piece

pub returns-in_err-scan_at-clause-lies : goal.returns-in_err-scan_at-clause-lies
returns-in_err-scan_at-clause-lies g c = grind (arith, elements) steps 400000

pub returns-in_err-scan_at-clause-found : goal.returns-in_err-scan_at-clause-found
returns-in_err-scan_at-clause-found g c = grind (arith, elements) steps 400000

pub returns-clause-lies : goal.returns-clause-lies
returns-clause-lies g c =
    lies_after _ _ _ _ _ _ c.requires.piece.is_piece (rw c.in-None.ensures.steps.0 at c.loop-place.invariant)
