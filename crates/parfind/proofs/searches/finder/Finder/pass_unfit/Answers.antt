use Rattle.std.proofs.lemmas.Grind.{common_steps}
use Rattle.std.proofs.Common.{◌≡◌, true, false, ◌∙◌, subst, sym, arith}
use Rattle.parshelf.specs.Shelf.{ShelfState}
use Rattle.parwindow.specs.Index.{SliceSet}
use Rattle.parfind.specs.Finders.{FinderState, BelongsTo, sought_for}
use Rattle.parfind.specs.NextPlace.{HasFit}
use Rattle.parfind.proofs.search_laws.PassUnfitLaws.{cursor_on}
use Rattle.parfind.proofs.place_laws.UnfitPlaceLaws.{unfit_belongs, unfit_passes, unfit_advances, unfit_sees, some_passed}
use Rattle.parfind.proofs.searches.finder.Finder.pass_unfit.Goals as goal

pub returns-clause-belongs : goal.returns-clause-belongs
returns-clause-belongs g c =
    let set : SliceSet = c.args.index.now in
    let s : ShelfState = g.H.Shelf.state c.args.shelf.now in
    let none : ¬ HasFit set s.lengths c.args.at = λ has.
    let e : true ≡ false = sym has ∙ (rw c.rest_of-rest.ensures at (sym c.fits.ensures ∙ c.if-fits.false)) in cc in
    let belongs : BelongsTo (record c.args.self.now { cursor = cursor_on c.args.at c.min-count.result }) set s =
    unfit_belongs c.args.self.now set s c.requires.belongs c.args.at c.requires.next none c.min-count.result in
    subst (λ (f : FinderState). BelongsTo (record f { cursor = cursor_on c.args.at c.min-count.result }) set s) (sym c.self.view_is) belongs

pub returns-clause-sees : goal.returns-clause-sees
returns-clause-sees g c = λ files reads.
    let none : ¬ HasFit c.args.index.now (g.H.Shelf.state c.args.shelf.now).lengths c.args.at = λ has.
    let e : true ≡ false = sym has ∙ (rw c.rest_of-rest.ensures at (sym c.fits.ensures ∙ c.if-fits.false)) in cc in
    let some = some_passed (g.H.Shelf.state c.args.shelf.now).lengths c.args.at c.args.left c.rest_of-rest.result c.unwrap_or.result c.min-count.result
    c.requires.left c.requires.next.there c.rest_of-rest.ensures c.unwrap_or.ensures c.min-count.ensures in
    unfit_sees (sought_for c.args.index.now c.args.self.now) (g.H.Shelf.state c.args.shelf.now) files reads
    c.args.self.now.cursor c.args.at c.requires.next none c.min-count.result some

pub returns-clause-passes : goal.returns-clause-passes
returns-clause-passes g c =
    let some = some_passed (g.H.Shelf.state c.args.shelf.now).lengths c.args.at c.args.left c.rest_of-rest.result c.unwrap_or.result c.min-count.result
    c.requires.left c.requires.next.there c.rest_of-rest.ensures c.unwrap_or.ensures c.min-count.ensures in
    unfit_passes (g.H.Shelf.state c.args.shelf.now).lengths c.args.self.now.cursor c.args.at c.requires.next c.min-count.result
    some (omega (arith, c.min-count.ensures, c.rest_of-rest.ensures))

pub returns-clause-advances : goal.returns-clause-advances
returns-clause-advances g c =
    let some = some_passed (g.H.Shelf.state c.args.shelf.now).lengths c.args.at c.args.left c.rest_of-rest.result c.unwrap_or.result c.min-count.result
    c.requires.left c.requires.next.there c.rest_of-rest.ensures c.unwrap_or.ensures c.min-count.ensures in
    unfit_advances (g.H.Shelf.state c.args.shelf.now).lengths c.args.self.now.cursor c.args.at c.requires.next c.min-count.result
    some c.args.index.now

pub returns-clause-within : goal.returns-clause-within
returns-clause-within g c = grind (arith, common_steps)

pub returns-clause-stays : goal.returns-clause-stays
returns-clause-stays g c = grind (arith, common_steps)
