use Rattle.std.proofs.Common.{take}
use Rattle.parwindow.specs.FilterBits.{HasTails}
use Rattle.parwindow.proofs.slices.bloom_filter.BloomFilter.of_tails.Given as goal

abbrev pub invariant-loop-slice : goal.invariant-loop-slice
invariant-loop-slice l = HasTails l.size (take l.slice-index l.slices) l.filter
