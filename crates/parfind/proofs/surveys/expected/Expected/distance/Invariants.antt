use Rattle.std.proofs.Common.{◌<◌}
use Rattle.parfind.proofs.surveys.expected.Expected.distance.Given as goal

abbrev pub invariant-loop-place : goal.invariant-loop-place
invariant-loop-place l = 0 < l.least
