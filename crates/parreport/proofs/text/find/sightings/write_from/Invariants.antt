use Rattle.std.proofs.Common.{◌≡◌, ℕ, List}
use Rattle.parshelf.specs.Shelf.{ReadsAs}
use Rattle.parshelf.specs.Reads.{ReadsOnly}
use Rattle.parfind.specs.Fetched.{ReadsUpTo}
use Rattle.parfind.specs.Finders.{BelongsTo}
use Rattle.parfind.specs.Moves.{steps_left}
use Rattle.parreport.specs.FindText.{find_search_of}
use Rattle.parreport.specs.SetSearch.{mode_of}
use Rattle.parreport.proofs.FindLaws.{HandsOut}
use Rattle.parreport.proofs.text.find.sightings.write_from.Given as goal

abbrev pub invariant-loop-left : goal.invariant-loop-left
invariant-loop-left g l = record {
  belongs : BelongsTo l.finder l.index (g.Q.Shelf.state l.shelf);
  mode : l.finder.mode ≡ mode_of l.fn.query.tails;
  reads : ReadsOnly (g.Q.Shelf.state l.fn.shelf) (g.Q.Shelf.state l.shelf);
  ahead : ReadsUpTo (g.Q.Shelf.state l.fn.shelf) (g.Q.Shelf.state l.shelf) l.fn.finder.fetched l.finder.fetched;
  failures : (g.W.Sink.state l.out).failures ≡ (g.W.Sink.state l.fn.out).failures;
  handed : (contents : List (List ℕ)) → ReadsAs (g.Q.Shelf.state l.shelf) contents
      → HandsOut (find_search_of l.files contents l.set l.fn.finder.cursor l.fn.query) l.left l.finder.cursor
      (g.W.Sink.state l.fn.out) (g.W.Sink.state l.out);
}

abbrev pub decreases-loop-left : goal.decreases-loop-left
decreases-loop-left g l = steps_left l.index (g.Q.Shelf.state l.shelf).lengths l.finder.cursor
