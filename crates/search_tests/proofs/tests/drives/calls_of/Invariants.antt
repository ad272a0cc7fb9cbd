use Rattle.std.proofs.Common.{All}
use Rattle.parfind.specs.Runs.{HasBudget}
use Rattle.search_tests.proofs.tests.drives.calls_of.Given as goal

-- every budget so far is above 0
abbrev pub invariant-loop-call : goal.invariant-loop-call
invariant-loop-call l = All HasBudget l.calls.items
