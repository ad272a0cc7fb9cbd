use Rattle.std.proofs.lemmas.Grind.{common_steps}
use Rattle.std.proofs.Common.{arith}
use Rattle.parwindow.proofs.slice_laws.LeastFromLaws.{least_at}
use Rattle.parwindow.proofs.slices.entries.least_from.Goals as goal

pub loop-entry-preserved : goal.loop-entry-preserved
loop-entry-preserved c =
    least_at c.args.entries.now c.loop-entry.entry-index _ c.args.from c.loop-entry.least
    c.lesser-least.result
    c.loop-entry-test.true
    c.loop-entry.invariant c.lesser-least.ensures

pub returns : goal.returns
returns c = grind (arith, common_steps)
