use Rattle.std.proofs.Common.{◌≡◌, ℕ, List, take}
use Rattle.parshelf.specs.Shelf.{ReadsAs}
use Rattle.parshelf.specs.Reads.{ReadsOnly}
use Rattle.parsalvage.specs.Kept.{kept_of_files}
use Rattle.parreport.proofs.CostLaws.{SalvagesUntil}
use Rattle.parreport.proofs.salvage.salvage_files.Given as goal

-- the packets of the files so far
abbrev pub invariant-loop-file : goal.invariant-loop-file
invariant-loop-file g l = record {
  reads : ReadsOnly (g.H.Shelf.state l.fn.shelf) (g.H.Shelf.state l.shelf);
  handed : SalvagesUntil (g.H.Shelf.state l.fn.shelf) (g.H.Shelf.state l.shelf) l.file;
  kept : (files : List (List ℕ)) → ReadsAs (g.H.Shelf.state l.shelf) files
      → l.all.items ≡ kept_of_files (take l.file files);
}
