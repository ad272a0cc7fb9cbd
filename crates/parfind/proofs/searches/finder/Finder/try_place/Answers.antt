use Rattle.std.proofs.Common.{◌<◌, sym, ap, subst, arith, Some}
use Rattle.std.proofs.lemmas.Result.{err_from_is_err_and}
use Rattle.parshelf.specs.Shelf.{ShelfState, ReadsAs}
use Rattle.parwindow.specs.Index.{SliceSet}
use Rattle.parfind.specs.declared.cursors.cursor.Cursor.{Cursor}
use Rattle.parfind.specs.Finders.{FinderState, BelongsTo, sought_for}
use Rattle.parfind.specs.Moves.{StepMoves}
use Rattle.parfind.specs.NextPlace.{IsNextPlace}
use Rattle.parfind.specs.PlaceVisit.{step_answer, count_of}
use Rattle.parfind.specs.Steps.{StepSees, scan_of}
use Rattle.parfind.proofs.search_laws.BelongsLaws.{later_belongs}
use Rattle.parfind.proofs.track_laws.LaterShelfLaws.{later_fault}
use Rattle.parfind.proofs.search_laws.FirstSeenLaws.{one_within}
use Rattle.parfind.proofs.search_laws.StepMovesLaws.{greater-end, greater-same}
use Rattle.parfind.proofs.search_laws.TryPlaceLaws.{tried_next}
use Rattle.parfind.proofs.search_laws.VisitLaws.{visit_ended, visit_stopped, visit_stays, visit_ends}
use Rattle.parfind.proofs.searches.finder.Finder.try_place.Goals as goal

pub returns : goal.returns
returns g c =
    let set : SliceSet = c.args.index.now in
    let old : ShelfState = g.H.Shelf.state c.args.shelf.now in
    let mid : ShelfState = g.H.Shelf.state c.move_window.new.shelf in
    let new : ShelfState = g.H.Shelf.state c.at_place.new.shelf in
    let f : FinderState = c.args.self.now in
    let same = ap (λ (x : FinderState). x.cursor) c.self.view_is in
    let found = rw same at c.in-Some.ensures.found in
    let m = c.in_ok-move_window.ensures in
    let next = subst (IsNextPlace old.lengths f.cursor) (sym m.cursor) found in
    let r = c.at_place.ensures in
    let along = rw c.in_default-pass_unfit.ensures.fits.1 at m.along in
    let tried = tried_next (sought_for set f) c.args.left old mid new f c.move_window.new.self c.at_place.new.self _ along next
    c.at_place.result
    (record { sees = rw along.mode_is at r.sees; moves = r.moves; advances = r.advances; within = r.within; along = r.along }) in
    record {
      belongs = r.belongs;
      sees = tried.sees;
      moves = tried.moves;
      advances = tried.advances;
      within = tried.within;
      along = tried.along;
    }

pub returns-then-self-count-clause-moves : goal.returns-then-self-count-clause-moves
returns-then-self-count-clause-moves g c =
    let s = g.H.Shelf.state c.args.shelf.now in
    let same = ap (λ (f : FinderState). f.cursor) c.self.view_is in
    let none = rw same at c.in_default.ensures.none in
    let end = greater-end s.lengths c.args.self.now.cursor (omega (arith, c.if-self-count.true, c.count.ensures, ap (λ (f : FinderState). f.cursor.file) c.self.view_is)) in
    visit_ends s.lengths c.args.self.now.cursor _ none (rw (end, c.count-then-self-count.ensures))

pub returns-else-self-count-clause-moves : goal.returns-else-self-count-clause-moves
returns-else-self-count-clause-moves g c =
    let s = g.H.Shelf.state c.args.shelf.now in
    let same = ap (λ (f : FinderState). f.cursor) c.self.view_is in
    let none = rw same at c.in_default.ensures.none in
    let end = greater-same s.lengths c.args.self.now.cursor (omega (arith, c.if-self-count.false, c.count.ensures, ap (λ (f : FinderState). f.cursor.file) c.self.view_is)) in
    visit_ends s.lengths c.args.self.now.cursor _ none (sym end)

pub returns-then-self-count-clause-sees : goal.returns-then-self-count-clause-sees
returns-then-self-count-clause-sees g c = λ files reads.
    let same = ap (λ (f : FinderState). f.cursor) c.self.view_is in
    let none = rw same at c.in_default.ensures.none in
    visit_ended (sought_for c.args.index.now c.args.self.now) files (g.H.Shelf.state c.args.shelf.now).lengths reads.lengths c.args.self.now.cursor none

pub returns-else-self-count-clause-sees : goal.returns-else-self-count-clause-sees
returns-else-self-count-clause-sees g c = λ files reads.
    let same = ap (λ (f : FinderState). f.cursor) c.self.view_is in
    let none = rw same at c.in_default.ensures.none in
    visit_ended (sought_for c.args.index.now c.args.self.now) files (g.H.Shelf.state c.args.shelf.now).lengths reads.lengths c.args.self.now.cursor none

pub returns-in_err-move_window-clause-moves : goal.returns-in_err-move_window-clause-moves
returns-in_err-move_window-clause-moves g c =
    let s : ShelfState = g.H.Shelf.state c.args.shelf.now in
    let same = ap (λ (f : FinderState). f.cursor) c.self.view_is in
    let found = rw same at c.in-Some.ensures.found in
    let failed = err_from_is_err_and c.from_residual.result c.from_residual.ensures.1 in
    subst (λ answer. StepMoves s.lengths (Some (count_of answer)) c.args.self.now.cursor (step_answer answer) c.move_window.new.self.cursor) (sym failed.1)
    (rw c.in_err-move_window.ensures.cursor (visit_stays s.lengths c.args.self.now.cursor c.in-Some.at found))

pub returns-in_err-move_window-clause-sees : goal.returns-in_err-move_window-clause-sees
returns-in_err-move_window-clause-sees g c = λ files reads.
    let s : ShelfState = g.H.Shelf.state c.args.shelf.now in
    let same = ap (λ (f : FinderState). f.cursor) c.self.view_is in
    let found = rw same at c.in-Some.ensures.found in
    let failed = err_from_is_err_and c.from_residual.result c.from_residual.ensures.1 in
    let later = later_fault s (g.H.Shelf.state c.move_window.new.shelf) c.move_window.new.self.cursor.file c.in_err-move_window.field-0.0
    c.in_err-move_window.ensures.along.shelf in
    let before : ReadsAs s files = later.older files reads in
    subst (λ answer. StepSees (scan_of (sought_for c.args.index.now c.args.self.now) files) c.args.self.now.cursor (step_answer answer) c.move_window.new.self.cursor) (sym failed.1)
    (rw c.in_err-move_window.ensures.cursor
    (visit_stopped (sought_for c.args.index.now c.args.self.now) files s.lengths before.lengths c.args.self.now.cursor c.in-Some.at found))

pub returns-then-self-count-clause-belongs : goal.returns-then-self-count-clause-belongs
returns-then-self-count-clause-belongs g c =
    let set : SliceSet = c.args.index.now in
    let s : ShelfState = g.H.Shelf.state c.args.shelf.now in
    let d : Cursor = record { file = c.count-then-self-count.result; offset = 0; slice = 0 } in
    let later : c.args.self.now.cursor.file < d.file =
    omega (arith, c.if-self-count.true, c.count.ensures, c.count-then-self-count.ensures, ap (λ (f : FinderState). f.cursor.file) c.self.view_is) in
    subst (λ (f : FinderState). BelongsTo (record f { cursor = d }) set s) (sym c.self.view_is)
    (later_belongs c.args.self.now set s c.requires.belongs d later)

pub returns-in_err-move_window-clause-within : goal.returns-in_err-move_window-clause-within
returns-in_err-move_window-clause-within g c =
    let failed = err_from_is_err_and c.from_residual.result c.from_residual.ensures.1 in
    rw failed.1 (one_within c.args.left c.requires.left)

pub returns-in_err-move_window-clause-along : goal.returns-in_err-move_window-clause-along
returns-in_err-move_window-clause-along g c =
    let failed = err_from_is_err_and c.from_residual.result c.from_residual.ensures.1 in
    let along = rw c.in_default-pass_unfit.ensures.fits.1 at c.in_err-move_window.ensures.along in
    rw (failed.1, failed.2) (record {
      shelf = along.shelf;
      reads = along.reads;
      opening_is = along.opening_is;
      mode_is = along.mode_is;
      no_fewer = along.no_fewer;
    })
