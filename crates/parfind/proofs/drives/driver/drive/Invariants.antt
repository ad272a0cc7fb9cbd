use Rattle.std.proofs.Common.{◌≡◌, ◌≤◌, drop, length, vec_len, vec_capacity}
use Rattle.parfind.specs.Finders.{BelongsTo}
use Rattle.parfind.specs.Sought.{sought_of}
use Rattle.parfind.proofs.drive_laws.DriveLaws.{DriveSoFar}
use Rattle.parfind.proofs.drives.driver.drive.Given as goal

abbrev pub invariant-loop-call : goal.invariant-loop-call
invariant-loop-call g l = record {
  belongs : BelongsTo l.finder l.index (g.H.Shelf.state l.shelf);
  room : length l.calls ≤ vec_capacity l.answers;
  count : vec_len l.answers ≡ l.call-index;
  so_far :
      DriveSoFar (sought_of l.index l.mode) (g.H.Shelf.state l.fn.shelf) (g.H.Shelf.state l.shelf) l.fn.start l.finder l.calls
      (drop l.call-index l.calls) l.answers.items;
}
