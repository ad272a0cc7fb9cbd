use Rattle.std.proofs.Common.{arith, ◌∙◌, ap, map, sym}
use Rattle.std.proofs.lemmas.Grind.{common_steps}
use Rattle.parset.proofs.MainLaws.{first_main_bounds}
use Rattle.parset.proofs.SetLaws.{no_main, with_main}
use Rattle.parset.proofs.building.build.Goals as goal

pub set_of_main-requires : goal.set_of_main-requires
set_of_main-requires c =
    first_main_bounds c.args.choice c.args.packets.now c.in-Some.set c.in-Some.main (sym c.in_ok-set.ensures ∙ c.in-Some.is)

pub returns-in_ok-own-in-Some : goal.returns-in_ok-own-in-Some
returns-in_ok-own-in-Some c =
    with_main c.args.choice c.args.packets.now c.in-Some.set c.in-Some.main _ c.set_of_main.result
    (sym c.in_ok-set.ensures ∙ c.in-Some.is) (ap (map (λ k. k.now)) c.as_slice.ensures.value ∙ c.in_ok-own-in-Some.ensures)
    c.set_of_main.ensures

pub returns-in-None : goal.returns-in-None
returns-in-None c = no_main c.args.choice c.args.packets.now (sym c.in_ok-set.ensures ∙ c.in-None.is)

pub returns-in_err-set : goal.returns-in_err-set
returns-in_err-set c = grind (arith, common_steps) steps 100000

pub returns-in_err-own-in-Some : goal.returns-in_err-own-in-Some
returns-in_err-own-in-Some c = grind (arith, common_steps) steps 100000
