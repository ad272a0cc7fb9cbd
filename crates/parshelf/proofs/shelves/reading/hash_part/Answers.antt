use Rattle.std.proofs.lemmas.Grind.{common_steps}
use Rattle.std.proofs.Common.{ℕ, ◌+◌, ◌≡◌, ◌∙◌, List, ◌++◌, length, take, drop, ap, sym, arith}
use Rattle.std.proofs.lemmas.List.{length-take-le, drop-drop, append_assoc, append-nil}
use Rattle.std.proofs.lemmas.Result.{err_from_is_err_and}
use Rattle.std.proofs.Math.Seq.{take-add}
use Rattle.parshelf.specs.Shelf.{file_of}
use Rattle.parshelf.proofs.ShelfLaws.{HandsOver-none, HandsOver_more}
use Rattle.parshelf.proofs.ReadLaws.{ReadsOnly-refl, ReadsOnly_more, FaultsIn_more, HandsAtMost_more}
use Rattle.parshelf.proofs.shelves.reading.hash_part.Goals as goal

pub loop-done-init : goal.loop-done-init
loop-done-init g c = record {
  within = omega arith;
  reads = ReadsOnly-refl _;
  hands = HandsOver-none _ _;
  holds = λ _ _ front held. rw (append-nil front) held;
}

-- a fault of the piece is one of the file, behind what was handed over before
pub returns-in_err-fill-clause-leaves : goal.returns-in_err-fill-clause-leaves
returns-in_err-fill-clause-leaves g c =
    let same = err_from_is_err_and c.from_residual.result c.from_residual.ensures.1 in
    let full : length (take c.min-next.result c.loop-done.buffer) ≡ c.min-next.result
    = length-take-le _ _ (omega arith) in
    let part = c.in_err-fill.ensures.leaves in
    rw (same.1, same.2) (
      FaultsIn_more _ _ _ _ _ c.loop-done.invariant.reads part.0,
      HandsAtMost_more _ _ _ _ c.loop-done.done c.min-next.result _ c.loop-done.invariant.hands
          (rw full at part.1) (omega arith),
    )

pub loop-done-preserved : goal.loop-done-preserved
loop-done-preserved g c =
    let before = c.loop-done.invariant in
    let full : length (take c.min-next.result c.loop-done.buffer) ≡ c.min-next.result
    = length-take-le _ _ (omega arith) in record {
      within = omega arith;
      reads = ReadsOnly_more _ _ _ before.reads c.in_ok-fill.ensures.leaves.0;
      hands = HandsOver_more _ _ _ _ _ _ before.hands (rw full at c.in_ok-fill.ensures.leaves.1);
      holds = λ files reads front held.
          let next = rw full at (c.in_ok-fill.ensures.bytes files reads) in
          let bytes : List ℕ = drop c.args.offset (file_of files c.args.file) in
          let behind = drop-drop c.loop-done.done c.args.offset (file_of files c.args.file) in
          let joined : take c.loop-done.done bytes ++ c.fill.new.buf ≡ take (c.loop-done.done + c.min-next.result) bytes
          = ap (λ (ys : List ℕ). take c.loop-done.done bytes ++ ys) (next ∙ ap (take c.min-next.result) (sym behind)) ∙ sym (take-add _ _ bytes) in
          let all = append_assoc front (take c.loop-done.done bytes) c.fill.new.buf ∙ ap (λ (ys : List ℕ). front ++ ys) joined in
          rw all at (c.update.ensures _ (before.holds files (c.in_ok-fill.ensures.leaves.0.older files reads) front held));
    }

pub returns-clause-hashed : goal.returns-clause-hashed
returns-clause-hashed g c = λ files reads front held.
    let whole : c.loop-done.done ≡ c.args.size = omega arith in
    rw whole at (c.loop-done.invariant.holds files reads front held)

pub overflow_sub-size : goal.overflow_sub-size
overflow_sub-size g c = grind (arith, common_steps) steps 100000

pub slice_bounds-piece-end : goal.slice_bounds-piece-end
slice_bounds-piece-end g c = grind (arith, common_steps) steps 100000

pub slice_bounds-piece-end-in-loop-done : goal.slice_bounds-piece-end-in-loop-done
slice_bounds-piece-end-in-loop-done g c = grind (arith, common_steps) steps 100000

pub overflow_add-offset : goal.overflow_add-offset
overflow_add-offset g c = grind (arith, common_steps) steps 1500000

pub fill-requires-clause-file : goal.fill-requires-clause-file
fill-requires-clause-file g c = grind (arith, common_steps) steps 100000

pub fill-requires-clause-within : goal.fill-requires-clause-within
fill-requires-clause-within g c = grind (arith, common_steps) steps 100000

pub returns-in_err-fill-clause-hashed : goal.returns-in_err-fill-clause-hashed
returns-in_err-fill-clause-hashed g c =
    let same = err_from_is_err_and c.from_residual.result c.from_residual.ensures.1 in
    λ _ _ _ _. rw same.1 tt

pub overflow_add-done : goal.overflow_add-done
overflow_add-done g c = grind (arith, common_steps) steps 400000

pub returns-clause-leaves : goal.returns-clause-leaves
returns-clause-leaves g c =
    let whole : c.loop-done.done ≡ c.args.size = omega arith in
    (c.loop-done.invariant.reads, rw whole at c.loop-done.invariant.hands)
