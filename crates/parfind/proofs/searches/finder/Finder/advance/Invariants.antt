use Rattle.parfind.specs.Finders.{BelongsTo, sought_for}
use Rattle.parfind.specs.Moves.{steps_left}
use Rattle.parfind.proofs.search_laws.TryPlaceLaws.{PassedSoFar}
use Rattle.parfind.proofs.searches.finder.Finder.advance.Given as goal

abbrev pub invariant-loop-sighting : goal.invariant-loop-sighting
invariant-loop-sighting g l = record {
  belongs : BelongsTo l.self l.index (g.H.Shelf.state l.shelf);
  so_far : PassedSoFar (sought_for l.index l.fn.self) l.fn.budget l.left (g.H.Shelf.state l.fn.shelf) (g.H.Shelf.state l.shelf) l.fn.self l.self;
}

abbrev pub decreases-loop-sighting : goal.decreases-loop-sighting
decreases-loop-sighting g l = steps_left l.index (g.H.Shelf.state l.shelf).lengths l.self.cursor
