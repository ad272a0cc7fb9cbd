use Rattle.std.proofs.Common.{take}
use Rattle.parwindow.specs.Indexed.{IsShortest}
use Rattle.parwindow.proofs.index.shortest_of.Given as goal

abbrev pub invariant-loop-slice : goal.invariant-loop-slice
invariant-loop-slice l = IsShortest (take l.slice-index l.slices) l.shortest
