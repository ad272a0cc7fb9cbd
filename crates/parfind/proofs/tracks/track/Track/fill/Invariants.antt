use Rattle.std.proofs.Common.{◌≡◌, ◌-◌, length}
use Rattle.parshelf.specs.Reads.{ReadsOnly}
use Rattle.parfind.specs.Fetched.{ReadsUpTo}
use Rattle.parfind.specs.Tracks.{IsTied, SameTrack, fetched_of}
use Rattle.parfind.proofs.tracks.track.Track.fill.Given as goal

abbrev pub invariant-loop-self : goal.invariant-loop-self
invariant-loop-self g l = record {
  tied : IsTied (g.H.Shelf.state l.shelf) l.window l.self;
  same : SameTrack l.fn.self l.self;
  window_is : l.window ≡ record l.fn.window { content = l.window.content };
  only : ReadsOnly (g.H.Shelf.state l.fn.shelf) (g.H.Shelf.state l.shelf);
  reads : ReadsUpTo (g.H.Shelf.state l.fn.shelf) (g.H.Shelf.state l.shelf) (fetched_of l.fn.self) (fetched_of l.self);
}

abbrev pub decreases-loop-self : goal.decreases-loop-self
decreases-loop-self g l = l.window.capacity - length l.window.content
