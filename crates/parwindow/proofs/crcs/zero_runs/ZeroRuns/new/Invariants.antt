use Rattle.std.proofs.Common.{◌≡◌, ◌^◌}
use Rattle.parwindow.specs.Powers.{ArePowers}
use Rattle.parwindow.proofs.crcs.zero_runs.ZeroRuns.new.Given as goal

abbrev pub invariant-loop-i : goal.invariant-loop-i
invariant-loop-i l = ArePowers l._i l.runs.items × (l.run.len ≡ 2 ^ l._i)
