use Rattle.std.proofs.Common.{◌≡◌, ℕ, List, map, take}
use Rattle.parshelf.specs.Shelf.{ReadsAs}
use Rattle.parshelf.specs.Reads.{ReadsOnly}
use Rattle.parreport.specs.States.{checked_of}
use Rattle.parreport.proofs.ContentLaws.{HandsBefore}
use Rattle.parreport.proofs.states.contents.contents.Given as goal

-- the lengths and the MD5s of the files so far
abbrev pub invariant-loop-file : goal.invariant-loop-file
invariant-loop-file g l = record {
  reads : ReadsOnly (g.Q.Shelf.state l.fn.shelf) (g.Q.Shelf.state l.shelf);
  bytes : HandsBefore l.files (g.Q.Shelf.state l.fn.shelf) (g.Q.Shelf.state l.shelf) l.file;
  whole : (scanned : List (List ℕ)) → ReadsAs (g.Q.Shelf.state l.shelf) scanned
      → l.contents.items ≡ map (checked_of l.files) (take l.file scanned);
}
