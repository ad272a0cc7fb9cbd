use Rattle.std.proofs.Common.{take}
use Rattle.parwindow.specs.LowSets.{HaveLows}
use Rattle.parwindow.proofs.slices.low_sets.LowSets.of.Given as goal

abbrev pub invariant-loop-slice : goal.invariant-loop-slice
invariant-loop-slice l = HaveLows l.size (take l.slice-index l.slices) l.lows.sets.items
