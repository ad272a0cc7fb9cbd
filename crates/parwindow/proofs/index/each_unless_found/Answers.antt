use Rattle.std.proofs.Common.{arith, ◌∙◌}
use Rattle.parwindow.proofs.slice_laws.UnlessFoundLaws.{unless_found_more, unless_found_all}
use Rattle.parwindow.proofs.index.each_unless_found.Goals as goal

pub loop-number-preserved : goal.loop-number-preserved
loop-number-preserved c =
    rw (c.in_ok-push.ensures.items, c.unless_found.ensures)
    (unless_found_more c.args.slices.now c.args.found.now c.loop-number.list.items c.loop-number.number
    _ c.requires c.loop-number-test.true c.loop-number.invariant)

pub returns : goal.returns
returns c =
    c.loop-number.invariant
    ∙ unless_found_all c.args.slices.now c.args.found.now c.loop-number.number c.requires (omega arith)
