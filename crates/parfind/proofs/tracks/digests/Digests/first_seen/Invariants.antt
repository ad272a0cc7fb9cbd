use Rattle.std.proofs.Common.{◌≡◌, ◌<◌, length, take}
use Rattle.std.specs.Prelude.{IfSome}
use Rattle.parwindow.specs.Least.{IsLeastFrom}
use Rattle.parfind.specs.KeptDigests.{Keeps, KeepsDigests, IsFullFor}
use Rattle.parfind.specs.Sought.{compared_lengths}
use Rattle.parfind.proofs.track_laws.EachLengthLaws.{seen_by}
use Rattle.parfind.proofs.tracks.digests.Digests.first_seen.Given as goal

abbrev pub invariant-loop-k : goal.invariant-loop-k
invariant-loop-k l = record {
  all : l.k-end ≡ length (compared_lengths l.sought);
  full : IsFullFor l.sought l.window;
  content : l.window.content ≡ l.fn.window.content;
  keeps : Keeps l.sought l.window l.self.kept.items;
  stays : KeepsDigests l.fn.window l.fn.self.kept.items l.window l.self.kept.items;
  seen : IsLeastFrom (seen_by l.sought.set l.sought.mode l.fn.window.content l.left
      (take l.k (compared_lengths l.sought))) l.first l.least;
  there : IfSome l.least (λ n. n < length l.sought.set.slices);
}
