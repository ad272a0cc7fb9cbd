use Rattle.std.proofs.Common.{ℕ, List, length, take, ◌-◌, ◌≡◌, ◌≤◌}
use Rattle.parshelf.specs.Shelf.{ReadsAs, bytes_at}
use Rattle.parshelf.specs.Reads.{ReadsOnly, HandsOver}
use Rattle.parshelf.proofs.shelves.reading.fill.Given as goal

-- the first `done` bytes of the buffer are filled, and `done` bytes were counted as read
abbrev pub invariant-loop-done : goal.invariant-loop-done
invariant-loop-done g l = record {
  within : l.done ≤ length l.buf;
  reads : ReadsOnly (g.H.Shelf.state l.fn.shelf) (g.H.Shelf.state l.shelf);
  hands : HandsOver (g.H.Shelf.state l.fn.shelf) (g.H.Shelf.state l.shelf) l.file l.done;
  bytes : (files : List (List ℕ)) → ReadsAs (g.H.Shelf.state l.shelf) files
      → take l.done l.buf ≡ bytes_at files l.file l.offset l.done;
}

abbrev pub decreases-loop-done : goal.decreases-loop-done
decreases-loop-done g l = length l.initial.buf - l.done
