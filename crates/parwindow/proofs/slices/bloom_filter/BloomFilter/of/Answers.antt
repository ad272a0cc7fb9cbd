use Rattle.std.proofs.lemmas.Grind.{common_steps}
use Rattle.std.proofs.Common.{arith}
use Rattle.parwindow.proofs.slice_laws.FilterLaws.{has_none, has_some}
use Rattle.parwindow.proofs.slices.bloom_filter.BloomFilter.of.Goals.{in-Some, in_default}
use Rattle.parwindow.proofs.slices.bloom_filter.BloomFilter.of.Goals as goal

pub loop-slice-preserved : goal.loop-slice-preserved
loop-slice-preserved c =
    let slices = c.args.slices.now in
    elim c.match-slice.branch [
      | in-Some w ↦
          rw w.filter-is
          (has_some slices c.loop-slice.slice-index
          _ c.loop-slice.filter w.insert.new.self w.in-Some.field-0-0
          w.in-Some.crc
          c.loop-slice-test.true
          c.loop-slice.invariant w.insert.ensures.keeps w.in-Some.is w.insert.ensures.has)
      | in_default w ↦
          rw w.filter-is
          (has_none slices c.loop-slice.slice-index _ c.loop-slice.filter c.loop-slice-test.true
          c.loop-slice.invariant w.in_default.is)
    ]

pub returns : goal.returns
returns c = grind (arith, common_steps) steps 1500000

pub returns-in_err-new : goal.returns-in_err-new
returns-in_err-new c = grind (arith, common_steps) steps 100000

pub returns-in_err-new-2 : goal.returns-in_err-new-2
returns-in_err-new-2 c = grind (arith, common_steps) steps 400000

pub loop-slice-init : goal.loop-slice-init
loop-slice-init c = grind (arith, common_steps) steps 100000

pub offset_bounds-slices-slice-index : goal.offset_bounds-slices-slice-index
offset_bounds-slices-slice-index c = grind (arith, common_steps) steps 400000

pub bounds-slices-slice-index : goal.bounds-slices-slice-index
bounds-slices-slice-index c = grind (arith, common_steps) steps 100000
