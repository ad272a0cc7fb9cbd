use Rattle.std.proofs.Common.{◌-◌, length}
use Rattle.parfind.specs.declared.cursors.cursor.Cursor.{Cursor}
use Rattle.parfind.specs.NextPlace.{IsAtPlace}
use Rattle.parfind.proofs.place_laws.CursorOrderLaws.{From}
use Rattle.parfind.proofs.searches.places.next_place.Given as goal

abbrev pub invariant-loop-at : goal.invariant-loop-at
invariant-loop-at g l = record {
  onward : From l.fn.from l.at;
  least : (e : Cursor) → From l.fn.from e → IsAtPlace (g.H.Shelf.state l.shelf).lengths e → From l.at e;
}

abbrev pub decreases-loop-at : goal.decreases-loop-at
decreases-loop-at g l = length (g.H.Shelf.state l.shelf).lengths - l.at.file
