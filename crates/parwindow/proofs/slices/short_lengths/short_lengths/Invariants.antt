use Rattle.std.proofs.Common.{take}
use Rattle.parwindow.specs.TailLengths.{AreShortOf}
use Rattle.parwindow.proofs.slices.short_lengths.short_lengths.Given as goal

abbrev pub invariant-loop-slice : goal.invariant-loop-slice
invariant-loop-slice l = AreShortOf l.size (take l.slice-index l.slices) l.lengths.items
