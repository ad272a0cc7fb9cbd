use Rattle.std.proofs.Common.{take}
use Rattle.parset.specs.Slices.{HasCounts}
use Rattle.parset.proofs.slicing.slice_counts.Given as goal

abbrev pub invariant-loop-file : goal.invariant-loop-file
invariant-loop-file l = HasCounts l.size l.counts (take l.file-index l.files)
