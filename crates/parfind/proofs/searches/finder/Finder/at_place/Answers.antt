use Rattle.std.proofs.lemmas.Grind.{common_steps}
use Rattle.std.proofs.Common.{◌≡◌, ap, ◌∙◌, arith}
use Rattle.std.proofs.lemmas.Result.{err_from_is_err_and}
use Rattle.parshelf.specs.Shelf.{ShelfState}
use Rattle.parwindow.specs.Index.{SliceSet}
use Rattle.parfind.specs.declared.cursors.cursor.Cursor.{Cursor}
use Rattle.parfind.specs.Finders.{FinderState}
use Rattle.parfind.proofs.search_laws.AtPlaceLaws.{IsThere, Looked, hit_inside, fault_inside, pass_inside}
use Rattle.parfind.proofs.search_laws.BelongsLaws.{with_window}
use Rattle.parfind.proofs.track_laws.KeptDigestLaws.{tied_digest}
use Rattle.parfind.proofs.searches.finder.Finder.at_place.Goals as goal

pub returns-in-Some : goal.returns-in-Some
returns-in-Some g c =
    let set : SliceSet = c.args.index.now in
    let s : ShelfState = g.H.Shelf.state c.args.shelf.now in
    let i = c.self.inside in
    let f : FinderState = with_window (record c.args.self.now { opening = i.opening; mode = i.mode }) i.cursor i.window i.track i.digests.kept.items in
    let q = c.requires in
    let there : IsThere set s c.args.self.now =
    record { belongs = q.belongs; counted = q.file; there = q.there; stands = q.stands; full = q.full } in
    let w = c.first_seen.new in
    let r = c.first_seen.ensures in
    let looked : Looked set s f c.rest_of-rest.result c.first_seen.result w.window w.self.kept.items =
    record { rest_is = c.rest_of-rest.ensures; first = r.first; stays = r.stays; keeps = r.keeps } in
    let seen = rw c.in-Some.is at r.there in
    let tried = hit_inside set s f c.args.self.now c.self.view_is there c.args.left q.left c.rest_of-rest.result
    c.first_seen.result w.window w.self.kept.items looked c.in-Some.slice c.in-Some.is seen in
    record {
      belongs = tried.0;
      sees = tried.1.sees;
      moves = tried.1.moves;
      advances = tried.1.advances;
      within = tried.1.within;
      along = tried.1.along;
    }

pub returns-in_err-count : goal.returns-in_err-count
returns-in_err-count g c =
    let set : SliceSet = c.args.index.now in
    let s : ShelfState = g.H.Shelf.state c.args.shelf.now in
    let i = c.self.inside in
    let f : FinderState = with_window (record c.args.self.now { opening = i.opening; mode = i.mode }) i.cursor i.window i.track i.digests.kept.items in
    let q = c.requires in
    let there : IsThere set s c.args.self.now =
    record { belongs = q.belongs; counted = q.file; there = q.there; stands = q.stands; full = q.full } in
    let w = c.first_seen.new in
    let r = c.first_seen.ensures in
    let looked : Looked set s f c.rest_of-rest.result c.first_seen.result w.window w.self.kept.items =
    record { rest_is = c.rest_of-rest.ensures; first = r.first; stays = r.stays; keeps = r.keeps } in
    let v = c.slide_until_crc.new in
    let e = c.in_err-count.ensures in
    let tried = fault_inside set s f c.args.self.now c.self.view_is there c.args.left q.left c.rest_of-rest.result
    c.first_seen.result w.window w.self.kept.items looked (g.H.Shelf.state v.shelf) v.window v.self e.tied e.window e.reads
    c.in_err-count.field-0.0 e.shelf e.stays.0 e.stays.1 in
    let failed = err_from_is_err_and c.from_residual.result c.from_residual.ensures.1 in
    rw (failed.1, failed.2) (record {
      belongs = tried.0;
      sees = tried.1.sees;
      moves = tried.1.moves;
      advances = tried.1.advances;
      within = tried.1.within;
      along = tried.1.along;
    })

pub returns : goal.returns
returns g c =
    let set : SliceSet = c.args.index.now in
    let s : ShelfState = g.H.Shelf.state c.args.shelf.now in
    let i = c.self.inside in
    let f : FinderState = with_window (record c.args.self.now { opening = i.opening; mode = i.mode }) i.cursor i.window i.track i.digests.kept.items in
    let q = c.requires in
    let there : IsThere set s c.args.self.now =
    record { belongs = q.belongs; counted = q.file; there = q.there; stands = q.stands; full = q.full } in
    let w = c.first_seen.new in
    let r = c.first_seen.ensures in
    let looked : Looked set s f c.rest_of-rest.result c.first_seen.result w.window w.self.kept.items =
    record { rest_is = c.rest_of-rest.ensures; first = r.first; stays = r.stays; keeps = r.keeps } in
    let v = c.slide_until_crc.new in
    let e = c.in_ok-count.ensures in
    let tried = pass_inside set s f c.args.self.now c.self.view_is there c.args.left q.left c.rest_of-rest.result
    c.first_seen.result w.window w.self.kept.items looked
    (g.H.Shelf.state v.shelf) v.window v.self e.tied e.window e.reads c.in_ok-count.count c.unwrap_or-most.result c.forget.new.self.kept.items
    c.forget.ensures e.shelf e.same e.passes c.in_default.is (omega (arith, c.unwrap_or-most.ensures)) e.none in
    record {
      belongs = tried.0;
      sees = tried.1.sees;
      moves = tried.1.moves;
      advances = tried.1.advances;
      within = tried.1.within;
      along = tried.1.along;
    }

pub overflow_add-self-2 : goal.overflow_add-self-2
overflow_add-self-2 g c =
    let s : ShelfState = g.H.Shelf.state c.args.shelf.now in
    let at : Cursor = c.args.self.now.cursor in
    let same : c.self.inside.cursor ≡ at = ap (λ (f : FinderState). f.cursor) c.self.view_is in
    let passes = c.in_ok-count.ensures.passes in
    let file : c.self.inside.track.file ≡ at.file = ap (λ (f : FinderState). f.track.file) c.self.view_is ∙ c.requires.stands.file_is in
    let held : c.self.inside.track.window_offset ≡ at.offset =
    ap (λ (f : FinderState). f.track.window_offset) c.self.view_is ∙ c.requires.stands.offset_is in
    let inside = rw (held, file) at passes.inside in
    rw same (omega (arith, inside, (g.met.H.Shelf.well_formed c.args.shelf.now).short at.file 0 c.requires.file))

pub overflow_add-self : goal.overflow_add-self
overflow_add-self g c = omega (arith, rw c.in-Some.is at c.first_seen.ensures.there, c.first_seen.ensures.few)

pub rest_of-rest-requires-clause-counted : goal.rest_of-rest-requires-clause-counted
rest_of-rest-requires-clause-counted g c = grind (arith, common_steps) steps 100000

pub rest_of-rest-requires-clause-there : goal.rest_of-rest-requires-clause-there
rest_of-rest-requires-clause-there g c = grind (arith, common_steps) steps 100000

pub slide_until_crc-requires-clause-some : goal.slide_until_crc-requires-clause-some
slide_until_crc-requires-clause-some g c = grind (arith, common_steps) steps 400000

pub slide_until_crc-requires-clause-file : goal.slide_until_crc-requires-clause-file
slide_until_crc-requires-clause-file g c = grind (arith, common_steps) steps 100000

pub slide_until_crc-requires-clause-inside : goal.slide_until_crc-requires-clause-inside
slide_until_crc-requires-clause-inside g c = grind (arith, common_steps) steps 100000

pub slide_until_crc-requires-clause-sized : goal.slide_until_crc-requires-clause-sized
slide_until_crc-requires-clause-sized g c = grind (arith, common_steps) steps 100000

pub slide_until_crc-requires-clause-full : goal.slide_until_crc-requires-clause-full
slide_until_crc-requires-clause-full g c =
    let window = ap (λ (f : FinderState). f.window) c.self.view_is in
    rw (c.first_seen.ensures.stays.window_is, window) c.requires.full

pub slide_until_crc-requires-clause-tied : goal.slide_until_crc-requires-clause-tied
slide_until_crc-requires-clause-tied g c =
    let i = c.self.inside in
    let track = ap (λ (f : FinderState). f.track) c.self.view_is in
    let window = ap (λ (f : FinderState). f.window) c.self.view_is in
    tied_digest (g.H.Shelf.state c.args.shelf.now) i.window c.first_seen.new.window i.track _ (rw (track, window) c.requires.belongs.tied)
    c.first_seen.ensures.stays.window_is
