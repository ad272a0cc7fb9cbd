use Rattle.std.proofs.Common.{◌-◌, ◌++◌, ◌≤◌, List, ℕ}
use Rattle.md5.specs.Md5.{Holds}
use Rattle.parshelf.specs.Shelf.{ReadsAs, bytes_at}
use Rattle.parshelf.specs.Reads.{ReadsOnly, HandsOver}
use Rattle.parshelf.proofs.shelves.reading.hash_part.Given as goal

-- the first `done` bytes of the part are hashed, and `done` bytes were counted as read
abbrev pub invariant-loop-done : goal.invariant-loop-done
invariant-loop-done g l = record {
  within : l.done ≤ l.size;
  reads : ReadsOnly (g.H.Shelf.state l.fn.shelf) (g.H.Shelf.state l.shelf);
  hands : HandsOver (g.H.Shelf.state l.fn.shelf) (g.H.Shelf.state l.shelf) l.file l.done;
  holds : (files : List (List ℕ)) → ReadsAs (g.H.Shelf.state l.shelf) files → (front : List ℕ)
      → Holds l.fn.hasher front → Holds l.hasher (front ++ bytes_at files l.file l.offset l.done);
}

abbrev pub decreases-loop-done : goal.decreases-loop-done
decreases-loop-done g l = l.size - l.done
