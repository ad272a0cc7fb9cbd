use Rattle.std.proofs.Common.{◌∙◌}
use Rattle.std.proofs.lemmas.Result.{err_from_is_err_and}
use Rattle.parshelf.proofs.ReadLaws.{ReadsOnly_more, FaultsIn_more}
use Rattle.parfind.proofs.survey_laws.RoundLaws.{skips_twice}
use Rattle.parfind.proofs.surveys.rounds.survey_twice.Goals as goal

pub returns-clause-leaves : goal.returns-clause-leaves
returns-clause-leaves g c = ReadsOnly_more _ _ _ c.in_ok-look_for_full.ensures.leaves c.in_ok-look_for_rest.ensures.shelf

pub returns-in_err-look_for_rest-clause-leaves : goal.returns-in_err-look_for_rest-clause-leaves
returns-in_err-look_for_rest-clause-leaves g c =
    let failed = err_from_is_err_and c.from_residual-in_err-look_for_rest.result c.from_residual-in_err-look_for_rest.ensures.1 in
    rw (failed.1, failed.2) (FaultsIn_more _ _ _ _ _ c.in_ok-look_for_full.ensures.leaves c.in_err-look_for_rest.ensures.shelf)

pub returns-clause-unfit : goal.returns-clause-unfit
returns-clause-unfit g c =
    skips_twice c.args.index.now c.args.found.now c.requires.each c.look_for_full.new.found (c.look_for_full.auto.found ∙ c.requires.each)
    c.look_for_full.ensures.kept (g.H.Shelf.state c.args.shelf.now) (g.H.Shelf.state c.look_for_full.new.shelf)
    (g.H.Shelf.state c.look_for_rest.new.shelf) c.in_ok-look_for_full.ensures.leaves c.look_for_full.ensures.unfit c.look_for_rest.ensures.unfit

pub returns-in_err-look_for_rest-clause-unfit : goal.returns-in_err-look_for_rest-clause-unfit
returns-in_err-look_for_rest-clause-unfit g c =
    skips_twice c.args.index.now c.args.found.now c.requires.each c.look_for_full.new.found (c.look_for_full.auto.found ∙ c.requires.each)
    c.look_for_full.ensures.kept (g.H.Shelf.state c.args.shelf.now) (g.H.Shelf.state c.look_for_full.new.shelf)
    (g.H.Shelf.state c.look_for_rest.new.shelf) c.in_ok-look_for_full.ensures.leaves c.look_for_full.ensures.unfit c.look_for_rest.ensures.unfit
