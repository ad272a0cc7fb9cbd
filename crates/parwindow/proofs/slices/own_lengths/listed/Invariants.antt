use Rattle.std.proofs.Common.{take}
use Rattle.parwindow.specs.OwnLengths.{AreExactlyOf, AreLengthsOf}
use Rattle.parwindow.proofs.slices.own_lengths.listed.Given as goal

abbrev pub invariant-loop-slice : goal.invariant-loop-slice
invariant-loop-slice l =
    AreLengthsOf (take l.slice-index l.slices) l.list.items
    × AreExactlyOf (take l.slice-index l.slices) l.list.items
