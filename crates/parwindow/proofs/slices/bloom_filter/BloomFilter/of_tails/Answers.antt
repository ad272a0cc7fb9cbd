use Rattle.std.proofs.Common.{ℕ}
use Rattle.parwindow.specs.FilterBits.{MayHave}
use Rattle.parwindow.specs.declared.slices.bloom_filter.BloomFilter.{BloomFilter}
use Rattle.parwindow.proofs.slice_laws.ShortSliceLaws.{short_none, short_some, short_whole}
use Rattle.parwindow.proofs.slices.bloom_filter.BloomFilter.of_tails.Goals.{in-Some+then-slice-size, in-Some+else-slice-size, in_default}
use Rattle.parwindow.proofs.slices.bloom_filter.BloomFilter.of_tails.Goals as goal

-- the filter has a register, whatever the length is
abbrev Marked : BloomFilter → ℕ → ℕ → Type 0
Marked filter own register = MayHave filter register

pub loop-slice-preserved : goal.loop-slice-preserved
loop-slice-preserved c =
    let slices = c.args.slices.now in
    let i = c.loop-slice.slice-index in
    let filter = c.loop-slice.filter in
    elim c.match-slice.branch [
      | in-Some+then-slice-size w ↦
          rw w.filter-is
          (short_some c.args.size slices i _ (Marked filter) (Marked w.insert.new.self)
          c.loop-slice-test.true c.loop-slice.invariant (λ own. w.insert.ensures.keeps)
          w.in-Some.field-0-0 w.in-Some.crc _ w.in-Some.is w.before-then-slice-size.ensures
          w.insert.ensures.has)
      | in-Some+else-slice-size w ↦
          rw w.filter-is
          (short_whole c.args.size slices i _ (Marked filter) (Marked filter)
          c.loop-slice-test.true c.loop-slice.invariant (λ own register was. was)
          w.if-slice-size.false)
      | in_default w ↦
          rw w.filter-is
          (short_none c.args.size slices i _ (Marked filter) (Marked filter)
          c.loop-slice-test.true c.loop-slice.invariant (λ own register was. was) w.in_default.is)
    ]
