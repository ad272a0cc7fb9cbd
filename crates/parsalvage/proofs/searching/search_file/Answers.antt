use Rattle.std.proofs.lemmas.Grind.{common_steps}
use Rattle.std.proofs.Common.{◌≡◌, ◌-◌, ◌≤◌, ◌∙◌, ℕ, List, length, take, drop, arith, length-drop, refl}
use Rattle.std.proofs.lemmas.List.{length-take-le, length-replicate}
use Rattle.std.proofs.lemmas.Result.{err_from_is_err_and}
use Rattle.parsalvage.proofs.HandLaws.{Hands-lengths, not_memory}
use Rattle.parsalvage.proofs.FileLaws.{FileSearched-start, FileSearched-read, FileSearched-next, FileSearched-fault, FileSearched-unread, piece_is, hands_whole, lies_whole, packets_whole}
use borrow.Rule.Slice.PartMut.{same_len_mid}
use Rattle.parsalvage.proofs.searching.search_file.Goals as goal

-- the length of a part of the window
part_length : (window : List ℕ) (held size : ℕ) → length window ≡ 65536 → held ≤ size → size ≤ 65536
    → length (take (size - held) (drop held window)) ≡ size - held
part_length window held size whole low high =
    length-take-le (size - held) (drop held window) (omega (arith, whole, length-drop held window))

pub loop-base-init : goal.loop-base-init
loop-base-init g c = record {
  within = omega arith;
  few = omega arith;
  whole = length-replicate {A = ℕ} 65536 0;
  searched = FileSearched-start _ _ _ _ c.new.ensures.items c.new-2.ensures.items refl refl;
}

pub search_piece-requires-clause-piece : goal.search_piece-requires-clause-piece
search_piece-requires-clause-piece g c =
    let before = c.loop-base.invariant in
    let wide : 64 ≤ c.min-size.result = omega arith in
    let high : c.min-size.result ≤ 65536 = omega arith in
    let read = FileSearched-read _ _ _ before.searched c.min-size.result c.fill.new.buf (omega (arith, before.few, wide)) (omega (arith, before.whole, high))
    c.fill.auto.buf _ c.in_ok-fill.ensures.leaves c.in_ok-fill.ensures.bytes in
    record {
      known = rw (Hands-lengths _ _ _ _ read.hands) c.requires.file;
      is_piece = piece_is _ _ _ read (omega (arith, wide));
    }

pub search_piece-requires-clause-found : goal.search_piece-requires-clause-found
search_piece-requires-clause-found g c =
    let before = c.loop-base.invariant in
    let wide : 64 ≤ c.min-size.result = omega arith in
    let high : c.min-size.result ≤ 65536 = omega arith in
    let read = FileSearched-read _ _ _ before.searched c.min-size.result c.fill.new.buf (omega (arith, before.few, wide)) (omega (arith, before.whole, high))
    c.fill.auto.buf _ c.in_ok-fill.ensures.leaves c.in_ok-fill.ensures.bytes in
    read.packets

pub loop-base-preserved : goal.loop-base-preserved
loop-base-preserved g c =
    let before = c.loop-base.invariant in
    let wide : 64 ≤ c.min-size.result = omega arith in
    let high : c.min-size.result ≤ 65536 = omega arith in
    let read = FileSearched-read _ _ _ before.searched c.min-size.result c.fill.new.buf (omega (arith, before.few, wide)) (omega (arith, before.whole, high))
    c.fill.auto.buf _ c.in_ok-fill.ensures.leaves c.in_ok-fill.ensures.bytes in
    record {
      within = omega arith;
      few = omega arith;
      whole = c.copy_within.ensures.len ∙ (same_len_mid c.loop-base.held (c.min-size.result - c.loop-base.held) c.loop-base.window c.fill.new.buf c.fill.auto.buf ∙ before.whole);
      searched = FileSearched-next _ _ _ read (omega (arith, wide)) _ c.search_piece.new.found c.copy_within.new.self c.copy_within.ensures.len c.copy_within.ensures.after
          c.in_ok-search_piece.ensures.lies c.in_ok-search_piece.ensures.found c.in_ok-search_piece.ensures.leaves;
    }

pub returns-clause-lies : goal.returns-clause-lies
returns-clause-lies g c =
    lies_whole _ _ _ c.loop-base.invariant.searched (omega arith) (omega arith)

pub returns-clause-found : goal.returns-clause-found
returns-clause-found g c =
    packets_whole _ _ _ c.loop-base.invariant.searched (omega arith) (omega arith)

pub returns-clause-leaves : goal.returns-clause-leaves
returns-clause-leaves g c =
    hands_whole _ _ _ c.loop-base.invariant.searched (omega arith) (omega arith)

pub returns-in_err-fill-clause-leaves : goal.returns-in_err-fill-clause-leaves
returns-in_err-fill-clause-leaves g c =
    let same = err_from_is_err_and c.from_residual.result c.from_residual.ensures.1 in
    let before = c.loop-base.invariant in
    let wide : 64 ≤ c.min-size.result = omega arith in
    let high : c.min-size.result ≤ 65536 = omega arith in
    let full = part_length c.loop-base.window c.loop-base.held c.min-size.result before.whole (omega (arith, before.few, wide)) high in
    rw (same.1, same.2)
    (FileSearched-unread _ _ _ _ _ _ before.searched
    (omega (arith, full, before.few, wide, c.length-end.ensures.value)) c.in_err-fill.ensures.leaves)

pub returns-in_err-search_piece-clause-leaves : goal.returns-in_err-search_piece-clause-leaves
returns-in_err-search_piece-clause-leaves g c =
    let same = err_from_is_err_and c.from_residual-in_err-search_piece.result c.from_residual-in_err-search_piece.ensures.1 in
    let before = c.loop-base.invariant in
    let wide : 64 ≤ c.min-size.result = omega arith in
    let high : c.min-size.result ≤ 65536 = omega arith in
    let read = FileSearched-read _ _ _ before.searched c.min-size.result c.fill.new.buf (omega (arith, before.few, wide)) (omega (arith, before.whole, high))
    c.fill.auto.buf _ c.in_ok-fill.ensures.leaves c.in_ok-fill.ensures.bytes in
    rw (same.1, same.2)
    (FileSearched-fault _ _ _ read (omega (arith, wide)) _ _
    (omega (arith, c.length-end.ensures.value)) c.in_err-search_piece.ensures.leaves)

pub returns-in_err-search_piece-clause-empty : goal.returns-in_err-search_piece-clause-empty
returns-in_err-search_piece-clause-empty g c =
    let same = err_from_is_err_and c.from_residual-in_err-search_piece.result c.from_residual-in_err-search_piece.ensures.1 in
    rw (same.1, same.2) (λ files reads none. not_memory _ _ _ refl refl (c.in_err-search_piece.ensures.empty files reads none))

pub returns-in_err-fill-clause-lies : goal.returns-in_err-fill-clause-lies
returns-in_err-fill-clause-lies g c = grind (arith, common_steps) steps 400000

pub returns-in_err-fill-clause-found : goal.returns-in_err-fill-clause-found
returns-in_err-fill-clause-found g c = grind (arith, common_steps) steps 400000

pub returns-in_err-search_piece-clause-lies : goal.returns-in_err-search_piece-clause-lies
returns-in_err-search_piece-clause-lies g c = grind (arith, common_steps) steps 400000

pub returns-in_err-search_piece-clause-found : goal.returns-in_err-search_piece-clause-found
returns-in_err-search_piece-clause-found g c = grind (arith, common_steps) steps 400000

pub loop-base-smaller : goal.loop-base-smaller
loop-base-smaller g c = grind (arith, common_steps) steps 400000

pub overflow_add-base : goal.overflow_add-base
overflow_add-base g c = grind (arith, common_steps) steps 100000

pub overflow_sub-end : goal.overflow_sub-end
overflow_sub-end g c = grind (arith, common_steps) steps 100000

pub overflow_add-base-in-loop-base : goal.overflow_add-base-in-loop-base
overflow_add-base-in-loop-base g c = grind (arith, common_steps) steps 100000

pub slice_bounds-fill-count : goal.slice_bounds-fill-count
slice_bounds-fill-count g c = grind (arith, common_steps) steps 100000

pub slice_bounds-window-start : goal.slice_bounds-window-start
slice_bounds-window-start g c = grind (arith, common_steps) steps 100000

pub slice_bounds-window-end : goal.slice_bounds-window-end
slice_bounds-window-end g c = grind (arith, common_steps) steps 100000

pub fill-requires-clause-file : goal.fill-requires-clause-file
fill-requires-clause-file g c = grind (arith, common_steps) steps 100000

pub fill-requires-clause-within : goal.fill-requires-clause-within
fill-requires-clause-within g c = grind (arith, common_steps) steps 400000

pub slice_bounds-window-end-in-loop-base : goal.slice_bounds-window-end-in-loop-base
slice_bounds-window-end-in-loop-base g c = grind (arith, common_steps) steps 400000

pub slice_bounds-piece-end : goal.slice_bounds-piece-end
slice_bounds-piece-end g c = grind (arith, common_steps) steps 400000

pub search_piece-requires-clause-within : goal.search_piece-requires-clause-within
search_piece-requires-clause-within g c = grind (arith, common_steps) steps 400000

pub search_piece-requires-clause-long : goal.search_piece-requires-clause-long
search_piece-requires-clause-long g c = grind (arith, common_steps) steps 400000

pub search_piece-requires-clause-buffer : goal.search_piece-requires-clause-buffer
search_piece-requires-clause-buffer g c = grind (arith, common_steps) steps 400000

pub search_piece-requires-clause-lies : goal.search_piece-requires-clause-lies
search_piece-requires-clause-lies g c = grind (arith, common_steps) steps 400000

pub slice_bounds-copy_within-end : goal.slice_bounds-copy_within-end
slice_bounds-copy_within-end g c = grind (arith, common_steps) steps 400000

pub overflow_sub-size : goal.overflow_sub-size
overflow_sub-size g c = grind (arith, common_steps) steps 400000

pub copy_within-requires-clause-start_le_end : goal.copy_within-requires-clause-start_le_end
copy_within-requires-clause-start_le_end g c = grind (arith, common_steps) steps 100000

pub copy_within-requires-clause-in_bounds : goal.copy_within-requires-clause-in_bounds
copy_within-requires-clause-in_bounds g c = grind (arith, common_steps) steps 400000

pub copy_within-requires-clause-dest_in_bounds : goal.copy_within-requires-clause-dest_in_bounds
copy_within-requires-clause-dest_in_bounds g c = grind (arith, common_steps) steps 400000

pub copy_within-requires-clause-not_exhausted : goal.copy_within-requires-clause-not_exhausted
copy_within-requires-clause-not_exhausted g c = grind (arith, common_steps) steps 100000

pub overflow_sub-base : goal.overflow_sub-base
overflow_sub-base g c = grind (arith, common_steps) steps 400000

pub overflow_add-base-in-loop-base-2 : goal.overflow_add-base-in-loop-base-2
overflow_add-base-in-loop-base-2 g c = grind (arith, common_steps) steps 400000
