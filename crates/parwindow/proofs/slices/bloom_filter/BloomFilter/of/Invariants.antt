use Rattle.std.proofs.Common.{take}
use Rattle.parwindow.specs.FilterBits.{HasSlices}
use Rattle.parwindow.proofs.slices.bloom_filter.BloomFilter.of.Given as goal

abbrev pub invariant-loop-slice : goal.invariant-loop-slice
invariant-loop-slice l = HasSlices (take l.slice-index l.slices) l.filter
