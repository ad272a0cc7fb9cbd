use Rattle.std.proofs.Common.{◌≡◌, filter, length, take}
use Rattle.parfind.specs.KeptDigests.{IsFullFor}
use Rattle.parfind.specs.Noting.{AreExhausted, FindsMore, TakesDigests}
use Rattle.parfind.specs.Marks.{has_compared_missing}
use Rattle.parfind.specs.Sought.{compared_lengths}
use Rattle.parfind.proofs.track_laws.EachLengthLaws.{seen_by}
use Rattle.parfind.proofs.surveys.exhausted.Exhausted.note_seen.Given as goal

abbrev pub invariant-loop-k : goal.invariant-loop-k
invariant-loop-k l = record {
  all : l.k-end ≡ length (compared_lengths l.sought);
  full : IsFullFor l.sought l.window;
  content : l.window.content ≡ l.fn.window.content;
  exhausted : AreExhausted l.sought l.found l.left l.self.crcs;
  found : FindsMore (seen_by l.sought.set l.sought.mode l.fn.window.content l.left (take l.k (compared_lengths l.sought))) l.fn.found l.found;
  digests : TakesDigests (length (filter (has_compared_missing l.sought l.fn.found l.fn.window.content l.left)
      (take l.k (compared_lengths l.sought)))) l.fn.window l.window;
}
