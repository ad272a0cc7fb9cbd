use Rattle.std.proofs.lemmas.Grind.{common_steps}
use Rattle.std.proofs.Common.{◌≡◌, ◌∙◌, ap, arith, length, map, subst, sym}
use Rattle.std.proofs.lemmas.Result.{err_from_is_err_and}
use Rattle.std.proofs.lemmas.List.{length-map}
use Rattle.parshelf.specs.Shelf.{ShelfState}
use Rattle.parfind.specs.Sought.{HasFewTails, sought_of}
use Rattle.parfind.specs.Steps.{scan_of}
use Rattle.parfind.specs.Surveys.{AreAllSettled, FindsSighted, StopsOnceFound, survey_point}
use Rattle.parwindow.specs.Index.{slice_set_of}
use Rattle.parreport.specs.Findings.{is_in_whole_file, set_scan_of}
use Rattle.parreport.proofs.CostLaws.{searched_once}
use Rattle.parreport.proofs.LeaveLaws.{FaultTells-survey}
use Rattle.parreport.proofs.StateLaws.{take-all_back}
use Rattle.parreport.proofs.SumLaws.{found_found, all_settled}
use Rattle.parreport.proofs.states.found.found_slices.Goals as goal

pub returns-clause-found : goal.returns-clause-found
returns-clause-found g c = λ files reads.
    let slices = c.args.set.now.slices in
    let whole = c.args.whole.now in
    let scan = set_scan_of c.args.set.now c.args.mode files in
    let was : c.deref_mut.result.now ≡ map (is_in_whole_file whole) slices
    = c.deref_mut.ensures.value ∙ (c.in_ok-found.ensures ∙ ap (map (is_in_whole_file whole)) c.slices.ensures.field) in
    let same : length c.survey.new.found ≡ length c.in_ok-found.found.items
    = omega (arith, c.survey.auto.found, ap length c.deref_mut.ensures.value) in
    let back = take-all_back c.in_ok-found.found.len c.survey.new.found c.in_ok-found.found.items same (omega arith) in
    let sized : length c.survey.new.found ≡ length slices = omega (arith, c.survey.auto.found, ap length was, length-map slices (is_in_whole_file whole)) in
    let marked : FindsSighted scan c.deref_mut.result.now c.survey.new.found
    = subst (λ set. FindsSighted (scan_of (sought_of set c.args.mode) files) c.deref_mut.result.now c.survey.new.found) c.requires.index (c.in_ok-survey.ensures.found files reads) in
    back ∙ found_found whole scan c.deref_mut.result.now c.survey.new.found was sized marked

pub returns-clause-none : goal.returns-clause-none
returns-clause-none g c = λ needs_no_search.
    let was : c.deref_mut.result.now ≡ map (is_in_whole_file c.args.whole.now) c.args.set.now.slices
    = c.deref_mut.ensures.value ∙ (c.in_ok-found.ensures ∙ ap (map (is_in_whole_file c.args.whole.now)) c.slices.ensures.field) in
    let set = slice_set_of c.args.set.now.size c.args.set.now.slices in
    c.survey.ensures.none (subst (λ set. AreAllSettled set c.deref_mut.result.now) (sym c.requires.index)
    (all_settled c.args.whole.now set c.deref_mut.result.now was needs_no_search))

pub returns-in_err-survey-clause-none : goal.returns-in_err-survey-clause-none
returns-in_err-survey-clause-none g c = λ needs_no_search.
    let was : c.deref_mut.result.now ≡ map (is_in_whole_file c.args.whole.now) c.args.set.now.slices
    = c.deref_mut.ensures.value ∙ (c.in_ok-found.ensures ∙ ap (map (is_in_whole_file c.args.whole.now)) c.slices.ensures.field) in
    let set = slice_set_of c.args.set.now.size c.args.set.now.slices in
    c.survey.ensures.none (subst (λ set. AreAllSettled set c.deref_mut.result.now) (sym c.requires.index)
    (all_settled c.args.whole.now set c.deref_mut.result.now was needs_no_search))

pub returns-in_err-found-clause-found : goal.returns-in_err-found-clause-found
returns-in_err-found-clause-found g c = grind (arith, common_steps) steps 400000

pub returns-in_err-found-clause-stops : goal.returns-in_err-found-clause-stops
returns-in_err-found-clause-stops g c = grind (arith, common_steps) steps 100000

pub returns-in_err-found-clause-slices : goal.returns-in_err-found-clause-slices
returns-in_err-found-clause-slices g c = grind (arith, common_steps) steps 400000

pub returns-in_err-found-clause-handed : goal.returns-in_err-found-clause-handed
returns-in_err-found-clause-handed g c = grind (arith, common_steps) steps 100000

pub returns-in_err-found-clause-none : goal.returns-in_err-found-clause-none
returns-in_err-found-clause-none g c = grind (arith, common_steps) steps 100000

pub returns-in_err-found-clause-ok : goal.returns-in_err-found-clause-ok
returns-in_err-found-clause-ok g c = grind (arith, common_steps) steps 400000

pub returns-in_err-found-clause-fault : goal.returns-in_err-found-clause-fault
returns-in_err-found-clause-fault g c = grind (arith, common_steps) steps 400000

pub returns-in_err-survey-clause-found : goal.returns-in_err-survey-clause-found
returns-in_err-survey-clause-found g c = grind (arith, common_steps) steps 1500000

pub returns-in_err-survey-clause-slices : goal.returns-in_err-survey-clause-slices
returns-in_err-survey-clause-slices g c = grind (arith, common_steps) steps 1500000

pub returns-in_err-survey-clause-handed : goal.returns-in_err-survey-clause-handed
returns-in_err-survey-clause-handed g c =
    searched_once c.args.mode c.args.set.now c.args.index.now c.deref_mut.result.now (g.Q.Shelf.state c.args.shelf.now) (g.Q.Shelf.state c.survey.new.shelf)
    c.requires.index c.survey.ensures.handed c.survey.ensures.unfit

pub returns-in_err-survey-clause-ok : goal.returns-in_err-survey-clause-ok
returns-in_err-survey-clause-ok g c = grind (arith, common_steps) steps 1500000

pub returns-in_err-survey-clause-fault : goal.returns-in_err-survey-clause-fault
returns-in_err-survey-clause-fault g c =
    let failed = err_from_is_err_and c.from_residual-in_err-survey.result c.from_residual-in_err-survey.ensures.1 in
    rw (failed.1, failed.2)
    (FaultTells-survey (Unit {0}) (sought_of c.args.index.now c.args.mode) (survey_point (g.Q.Shelf.state c.args.shelf.now) c.deref_mut.result.now)
    (survey_point (g.Q.Shelf.state c.survey.new.shelf) c.survey.new.found) c.in_err-survey.field-0.0
    (subst (λ set. HasFewTails (sought_of set c.args.mode)) (sym c.requires.index) c.requires.few)
    c.in_err-survey.ensures.tails c.in_err-survey.ensures.leaves)

pub returns-clause-slices : goal.returns-clause-slices
returns-clause-slices g c = grind (arith, common_steps) steps 1500000

pub returns-clause-handed : goal.returns-clause-handed
returns-clause-handed g c =
    searched_once c.args.mode c.args.set.now c.args.index.now c.deref_mut.result.now (g.Q.Shelf.state c.args.shelf.now) (g.Q.Shelf.state c.survey.new.shelf)
    c.requires.index c.survey.ensures.handed c.survey.ensures.unfit

pub returns-clause-ok : goal.returns-clause-ok
returns-clause-ok g c = grind (arith, common_steps) steps 400000

pub returns-clause-fault : goal.returns-clause-fault
returns-clause-fault g c = grind (arith, common_steps) steps 100000

pub returns-clause-stops : goal.returns-clause-stops
returns-clause-stops g c = λ plain files reads.
    let scan = set_scan_of c.args.set.now c.args.mode files in
    let old : ShelfState = g.Q.Shelf.state c.args.shelf.now in
    let new : ShelfState = g.Q.Shelf.state c.survey.new.shelf in
    let was : c.deref_mut.result.now ≡ map (is_in_whole_file c.args.whole.now) c.args.set.now.slices
    = c.deref_mut.ensures.value ∙ (c.in_ok-found.ensures ∙ ap (map (is_in_whole_file c.args.whole.now)) c.slices.ensures.field) in
    subst (λ marks. StopsOnceFound scan old new marks) was
    (subst (λ set. StopsOnceFound (scan_of (sought_of set c.args.mode) files) old new c.deref_mut.result.now) c.requires.index
    (c.survey.ensures.stops plain files reads))

pub returns-in_err-survey-clause-stops : goal.returns-in_err-survey-clause-stops
returns-in_err-survey-clause-stops g c = λ plain files reads.
    let scan = set_scan_of c.args.set.now c.args.mode files in
    let old : ShelfState = g.Q.Shelf.state c.args.shelf.now in
    let new : ShelfState = g.Q.Shelf.state c.survey.new.shelf in
    let was : c.deref_mut.result.now ≡ map (is_in_whole_file c.args.whole.now) c.args.set.now.slices
    = c.deref_mut.ensures.value ∙ (c.in_ok-found.ensures ∙ ap (map (is_in_whole_file c.args.whole.now)) c.slices.ensures.field) in
    subst (λ marks. StopsOnceFound scan old new marks) was
    (subst (λ set. StopsOnceFound (scan_of (sought_of set c.args.mode) files) old new c.deref_mut.result.now) c.requires.index
    (c.survey.ensures.stops plain files reads))
