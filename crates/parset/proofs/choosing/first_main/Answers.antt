use Rattle.std.proofs.lemmas.Grind.{common_steps}
use Rattle.std.proofs.Common.{◌∙◌, sym, arith}
use Rattle.parset.specs.Choosing.{chosen_main_of}
use Rattle.parset.proofs.ChoosingLaws.{drop_at, first_found_passes, first_found_stops}
use Rattle.parset.proofs.choosing.first_main.Goals as goal

pub loop-kept-preserved : goal.loop-kept-preserved
loop-kept-preserved c =
    first_found_passes (chosen_main_of c.args.choice) _ _ _ (sym c.in_default.is ∙ c.in_ok-main.ensures)
    (drop_at c.args.packets.now c.loop-kept.kept-index c.kept-item.result c.loop-kept-test.true c.kept-item.is)
    ∙ c.loop-kept.invariant

pub returns-in-Some : goal.returns-in-Some
returns-in-Some c =
    first_found_stops (chosen_main_of c.args.choice) _ _ _ _ (sym c.in-Some.is ∙ c.in_ok-main.ensures)
    (drop_at c.args.packets.now c.loop-kept.kept-index c.kept-item.result c.loop-kept-test.true c.kept-item.is)
    ∙ c.loop-kept.invariant

pub returns : goal.returns
returns c = grind (arith, common_steps)
