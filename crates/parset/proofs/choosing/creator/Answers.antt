use Rattle.std.proofs.lemmas.Grind.{common_steps}
use Rattle.std.proofs.Common.{◌∙◌, sym, arith}
use Rattle.parset.specs.Choosing.{creator_of}
use Rattle.parset.proofs.ChoosingLaws.{first_found_passes, first_found_stops, map_drop_at}
use Rattle.parset.proofs.choosing.creator.Goals as goal

pub loop-kept-preserved : goal.loop-kept-preserved
loop-kept-preserved c =
    first_found_passes creator_of _ _ _ (sym c.in_default.is ∙ c.in_ok-text.ensures.text)
    (map_drop_at (λ k. k.now) c.args.own.now c.loop-kept.kept-index c.kept-item.result c.loop-kept-test.true c.kept-item.is)
    ∙ c.loop-kept.invariant

pub returns-in-Some : goal.returns-in-Some
returns-in-Some c =
    first_found_stops creator_of _ _ _ _ (sym c.in-Some.is ∙ c.in_ok-text.ensures.text)
    (map_drop_at (λ k. k.now) c.args.own.now c.loop-kept.kept-index c.kept-item.result c.loop-kept-test.true c.kept-item.is)
    ∙ c.loop-kept.invariant

pub returns : goal.returns
returns c = grind (arith, common_steps)
