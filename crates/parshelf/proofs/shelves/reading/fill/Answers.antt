use Rattle.std.proofs.lemmas.Grind.{common_steps}
use Rattle.std.proofs.Common.{◌≡◌, ◌+◌, ◌<◌, ◌∙◌, length, take, slice_index, ap, refl, arith}
use Rattle.parshelf.specs.Shelf.{ShelfState}
use Rattle.std.proofs.lemmas.List.{length-take-le}
use Rattle.parshelf.proofs.PieceLaws.{read_more}
use Rattle.parshelf.proofs.ReadLaws.{ReadsOnly-refl, ReadsOnly_more, FaultsIn_more}
use Rattle.parshelf.proofs.ShelfLaws.{ReadsOnly-read, HandsOver-none, HandsOver_more, HandsOver-read, FaultsIn-failed, FaultsIn-ended, handed-ended, read_told_some}
use Rattle.parshelf.proofs.shelves.reading.fill.Goals as goal

pub loop-done-init : goal.loop-done-init
loop-done-init g c = record {
  within = omega arith;
  reads = ReadsOnly-refl _;
  hands = HandsOver-none _ _;
  bytes = λ files reads. refl;
}

-- the read gave no byte before the file's length, so it is of no files
pub returns-in-Ok-eq0-clause-leaves : goal.returns-in-Ok-eq0-clause-leaves
returns-in-Ok-eq0-clause-leaves g c =
    let before = c.loop-done.invariant in
    let mid : ShelfState = g.H.Shelf.state c.loop-done.shelf in
    let lengths : mid.lengths ≡ (g.H.Shelf.state c.args.shelf.now).lengths = ap (λ (v : ShelfState). v.lengths) before.reads.counts in
    let has : c.args.file < length mid.lengths = rw lengths c.requires.file in
    let inside : c.args.offset + c.loop-done.done < slice_index mid.lengths c.args.file
    = rw lengths (omega (arith, c.requires.within)) in
    let none : length (take c.in-Ok-eq0.field-0 c.read_at.new.buf) ≡ 0 = rw c.in-Ok-eq0.field-0-test refl in
    let read = c.in-Ok-eq0.ensures.ok in (
      FaultsIn_more _ mid _ _ _ before.reads (FaultsIn-ended mid _ _ _ _ _ has none (omega arith) inside read),
      record {
        count = c.loop-done.done;
        within = omega arith;
        after = record { handed = handed-ended mid _ _ _ _ _ none (omega arith) inside read ∙ before.hands.handed };
      },
    )

pub loop-done-preserved : goal.loop-done-preserved
loop-done-preserved g c =
    let before = c.loop-done.invariant in
    let read = c.in-Ok.ensures in
    let count : length (take c.in-Ok.n c.read_at.new.buf) ≡ c.in-Ok.n = length-take-le _ _ (omega (arith, read.bound)) in
    let some : 0 < length (take c.in-Ok.n c.read_at.new.buf) = omega (arith, count) in
    let reads = ReadsOnly-read _ _ _ _ _ _ some read.ok in
    let hands = HandsOver-read _ _ _ _ _ _ some read.ok in record {
      within = omega (arith, read.bound);
      reads = ReadsOnly_more _ _ _ before.reads reads;
      hands = HandsOver_more _ _ _ _ _ _ before.hands (rw count at hands);
      bytes = λ files after.
          let told = (read_told_some _ _ _ _ _ _ some read.ok files after).bytes in
          read_more c.loop-done.buf c.read_at.new.buf _ c.loop-done.done _ c.in-Ok.n c.args.offset
          (omega arith) (omega (arith, read.bound)) (before.bytes files (reads.older files after)) (rw count at told);
    }

-- the failed read handed nothing over
pub returns-in-Err-clause-leaves : goal.returns-in-Err-clause-leaves
returns-in-Err-clause-leaves g c =
    let before = c.loop-done.invariant in
    let mid : ShelfState = g.H.Shelf.state c.loop-done.shelf in
    let lengths : mid.lengths ≡ (g.H.Shelf.state c.args.shelf.now).lengths = ap (λ (v : ShelfState). v.lengths) before.reads.counts in
    let has : c.args.file < length mid.lengths = rw lengths c.requires.file in
    let failed = c.in-Err.ensures.failed in (
      FaultsIn_more _ mid _ _ _ before.reads (FaultsIn-failed mid _ _ has failed),
      record {
        count = c.loop-done.done;
        within = omega (arith, before.within);
        after = record { handed = ap (λ (v : ShelfState). v.handed) failed ∙ before.hands.handed };
      },
    )

pub overflow_add-offset : goal.overflow_add-offset
overflow_add-offset g c = grind (arith, common_steps) steps 1500000

pub slice_bounds-read_at-count : goal.slice_bounds-read_at-count
slice_bounds-read_at-count g c = grind (arith, common_steps) steps 100000

pub slice_bounds-read_at-start : goal.slice_bounds-read_at-start
slice_bounds-read_at-start g c = grind (arith, common_steps) steps 100000

pub slice_bounds-read_at-end : goal.slice_bounds-read_at-end
slice_bounds-read_at-end g c = grind (arith, common_steps) steps 100000

pub returns-in-Ok-eq0-clause-bytes : goal.returns-in-Ok-eq0-clause-bytes
returns-in-Ok-eq0-clause-bytes g c = grind (arith, common_steps) steps 100000

pub overflow_add-done : goal.overflow_add-done
overflow_add-done g c = grind (arith, common_steps) steps 100000

pub returns-in-Err-clause-bytes : goal.returns-in-Err-clause-bytes
returns-in-Err-clause-bytes g c = grind (arith, common_steps) steps 100000

pub returns-clause-leaves : goal.returns-clause-leaves
returns-clause-leaves g c =
    let whole : c.loop-done.done ≡ length c.args.buf.now = omega arith in
    (c.loop-done.invariant.reads, rw whole at c.loop-done.invariant.hands)

pub returns-clause-bytes : goal.returns-clause-bytes
returns-clause-bytes g c = grind (arith, common_steps) steps 1500000
