use Rattle.std.proofs.Common.{◌≡◌, ◌≤◌, IsTrue}
use Rattle.parfind.specs.Expecting.{SeesMore, is_strict}
use Rattle.parfind.proofs.surveys.short.Short.look.Given as goal

abbrev pub invariant-loop-place : goal.invariant-loop-place
invariant-loop-place l = record {
  strict : IsTrue (is_strict l.fn.self) → l.window ≡ l.fn.window;
  window : l.window ≡ record l.fn.window { digests = l.window.digests };
  seen : SeesMore l.fn.window.content l.left l.fn.self l.self;
  fewer : l.expected.count ≤ l.fn.expected.count;
}

abbrev pub decreases-loop-place : goal.decreases-loop-place
decreases-loop-place l = l.expected.count
