use Rattle.parwindow.proofs.slice_laws.LowSetLaws.{held_lows, have_lows, kept_lows, LowsHave}
use Rattle.parwindow.proofs.slice_laws.ShortSliceLaws.{short_none, short_some, short_whole}
use Rattle.parwindow.proofs.slices.low_sets.LowSets.of.Goals.{in-Some+then-slice-size, in-Some+else-slice-size, in_default}
use Rattle.parwindow.proofs.slices.low_sets.LowSets.of.Goals as goal

pub loop-slice-preserved : goal.loop-slice-preserved
loop-slice-preserved c =
    let size = c.args.size in
    let slices = c.args.slices.now in
    let i = c.loop-slice.slice-index in
    let before = c.loop-slice.lows.sets.items in
    let have = c.loop-slice.invariant in
    let held = held_lows size slices i before before have in
    elim c.match-slice.branch [
      | in-Some+then-slice-size w ↦
          let after = w.insert.new.self.sets.items in
          rw w.lows-is
          (have_lows size slices i before after have
          (short_some size slices i _ (LowsHave before) (LowsHave after) c.loop-slice-test.true held
          (kept_lows size slices i before after have w.insert.ensures.keeps)
          w.in-Some.field-0-0 w.in-Some.crc _ w.in-Some.is w.before-register.ensures
          w.insert.ensures.has))
      | in-Some+else-slice-size w ↦
          rw w.lows-is
          (have_lows size slices i before before have
          (short_whole size slices i _ (LowsHave before) (LowsHave before) c.loop-slice-test.true held
          (λ own register was. was) w.if-slice-size.false))
      | in_default w ↦
          rw w.lows-is
          (have_lows size slices i before before have
          (short_none size slices i _ (LowsHave before) (LowsHave before) c.loop-slice-test.true held
          (λ own register was. was) w.in_default.is))
    ]
