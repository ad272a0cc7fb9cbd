use Rattle.std.proofs.Common.{◌≡◌}
use Rattle.parfind.proofs.surveys.expected.Expected.next_until.Given as goal

abbrev pub invariant-loop-k : goal.invariant-loop-k
invariant-loop-k l = l.self ≡ l.fn.self
