use Rattle.std.proofs.Common.{arith}
use Rattle.std.proofs.lemmas.Grind.{common_steps}
use Rattle.parshelf.specs.Shelf.{ShelfState}
use Rattle.parshelf.proofs.ReadLaws.{ReadsOnly_more, FaultsIn_more}
use Rattle.parfind.proofs.track_laws.LaterShelfLaws.{later_fault}
use Rattle.parreport.proofs.CostLaws.{salvages_more, salvages_stopped, salvages_all}
use Rattle.parreport.proofs.SalvageLaws.{kept_of_files-more, kept_of_files-all}
use Rattle.parreport.proofs.salvage.salvage_files.Goals as goal

pub loop-file-preserved : goal.loop-file-preserved
loop-file-preserved g c =
    let start : ShelfState = g.H.Shelf.state c.args.shelf.now in
    let now : ShelfState = g.H.Shelf.state c.loop-file.shelf in
    let new : ShelfState = g.H.Shelf.state c.salvage_file.new.shelf in record {
      reads = ReadsOnly_more start now new c.loop-file.invariant.reads c.in-Ok.ensures.leaves;
      handed = salvages_more start now new c.loop-file.file
          c.in-Ok.ensures.leaves.older c.loop-file.invariant.handed c.in-Ok.ensures.bound;
      kept = rw c.in_ok-append-in-Ok.ensures.items (kept_of_files-more start now new c.loop-file.file _ _ (omega arith)
          c.loop-file.invariant.reads c.in-Ok.ensures.leaves c.loop-file.invariant.kept c.in-Ok.ensures.kept);
    }

pub returns-clause-kept : goal.returns-clause-kept
returns-clause-kept g c =
    kept_of_files-all (g.H.Shelf.state c.args.shelf.now) (g.H.Shelf.state c.loop-file.shelf) _ _ (omega arith)
    c.loop-file.invariant.reads c.loop-file.invariant.kept

pub loop-file-init : goal.loop-file-init
loop-file-init g c = grind (arith, common_steps) steps 100000

pub returns-in_err-append-in-Ok-clause-kept : goal.returns-in_err-append-in-Ok-clause-kept
returns-in_err-append-in-Ok-clause-kept g c = grind (arith, common_steps) steps 400000

pub returns-in-Err-Memory-clause-kept : goal.returns-in-Err-Memory-clause-kept
returns-in-Err-Memory-clause-kept g c = grind (arith, common_steps) steps 100000

pub returns-in-Err-Read-clause-kept : goal.returns-in-Err-Read-clause-kept
returns-in-Err-Read-clause-kept g c = grind (arith, common_steps) steps 100000

pub returns-in-Err-Memory-clause-reads : goal.returns-in-Err-Memory-clause-reads
returns-in-Err-Memory-clause-reads g c =
    ReadsOnly_more (g.H.Shelf.state c.args.shelf.now) (g.H.Shelf.state c.loop-file.shelf) (g.H.Shelf.state c.salvage_file.new.shelf)
    c.loop-file.invariant.reads (rw c.in-Err-Memory.field-0-is at c.in-Err-Memory.ensures.leaves)

pub returns-in-Err-Read-clause-reads : goal.returns-in-Err-Read-clause-reads
returns-in-Err-Read-clause-reads g c =
    rw c.in-Err-Read.field-0-is
    (FaultsIn_more (g.H.Shelf.state c.args.shelf.now) (g.H.Shelf.state c.loop-file.shelf) (g.H.Shelf.state c.salvage_file.new.shelf)
    c.loop-file.file c.in-Err-Read.fault c.loop-file.invariant.reads (rw c.in-Err-Read.field-0-is at c.in-Err-Read.ensures.leaves))

pub returns-clause-handed : goal.returns-clause-handed
returns-clause-handed g c =
    salvages_all (g.H.Shelf.state c.args.shelf.now) (g.H.Shelf.state c.loop-file.shelf) c.loop-file.file c.loop-file.invariant.handed

pub returns-in_err-append-in-Ok-clause-handed : goal.returns-in_err-append-in-Ok-clause-handed
returns-in_err-append-in-Ok-clause-handed g c =
    salvages_stopped (g.H.Shelf.state c.args.shelf.now) (g.H.Shelf.state c.loop-file.shelf) (g.H.Shelf.state c.salvage_file.new.shelf)
    c.loop-file.file c.in-Ok.ensures.leaves.older
    c.loop-file.invariant.handed c.in-Ok.ensures.bound

pub returns-in-Err-Memory-clause-handed : goal.returns-in-Err-Memory-clause-handed
returns-in-Err-Memory-clause-handed g c =
    salvages_stopped (g.H.Shelf.state c.args.shelf.now) (g.H.Shelf.state c.loop-file.shelf) (g.H.Shelf.state c.salvage_file.new.shelf)
    c.loop-file.file
    (rw c.in-Err-Memory.field-0-is at c.in-Err-Memory.ensures.leaves).older c.loop-file.invariant.handed c.in-Err-Memory.ensures.bound

pub returns-in-Err-Read-clause-handed : goal.returns-in-Err-Read-clause-handed
returns-in-Err-Read-clause-handed g c =
    let later = later_fault (g.H.Shelf.state c.loop-file.shelf) (g.H.Shelf.state c.salvage_file.new.shelf) c.loop-file.file c.in-Err-Read.fault
    (rw c.in-Err-Read.field-0-is at c.in-Err-Read.ensures.leaves) in
    salvages_stopped (g.H.Shelf.state c.args.shelf.now) (g.H.Shelf.state c.loop-file.shelf) (g.H.Shelf.state c.salvage_file.new.shelf)
    c.loop-file.file later.older
    c.loop-file.invariant.handed c.in-Err-Read.ensures.bound
