use Rattle.std.proofs.Common.{◌≡◌, ℕ, sym, ap, ◌∙◌, arith, subst, true, false, List, length, replicate, Option, None}
use Rattle.parshelf.specs.Shelf.{ShelfState}
use Rattle.parwindow.specs.Index.{SliceSet}
use Rattle.parwindow.specs.Window.{WindowState}
use Rattle.parshelf.specs.Reads.{ReadsFile}
use Rattle.parfind.specs.Tracks.{fetched_of}
use Rattle.parfind.proofs.track_laws.FetchedLaws.{hands_more}
use Rattle.parfind.specs.Finders.{FinderState, BelongsTo, StandsAt, sought_for}
use Rattle.parfind.proofs.search_laws.MoveWindowLaws.{stays_there, enter_tied, enter_file, enter_stands, enter_hands, enter_digests, enter_belongs}
use Rattle.parfind.proofs.search_laws.BelongsLaws.{opened_as, with_window}
use Rattle.parfind.proofs.track_laws.LaterShelfLaws.{later_read}
use Rattle.parfield.specs.declared.hash16.Hash16.{Hash16}
use Rattle.parfind.specs.Sought.{compared_lengths}
use Rattle.parfind.specs.declared.tracks.track.Track.{Track}
use Rattle.parfind.proofs.searches.finder.Finder.move_window.Goals as goal
use Rattle.parfind.proofs.searches.finder.Finder.move_window.Goals.{else-at-file-via-then-at-file+else-is_full, else-at-file-via-else-at-file}

pub fill-requires-clause-tied : goal.fill-requires-clause-tied
fill-requires-clause-tied g c =
    let s : ShelfState = g.H.Shelf.state c.args.shelf.now in
    let track = ap (λ (f : FinderState). f.track) c.self.view_is in
    let window = ap (λ (f : FinderState). f.window) c.self.view_is in
    enter_tied c.args.self.now c.args.index.now s (g.met.H.Shelf.well_formed c.args.shelf.now) c.requires.belongs c.args.at c.requires.next c.requires.fits
    c.enter_file.new.window c.enter_file.new.self (rw (track, window) at c.enter_file.ensures.same) (rw (track, window) at c.enter_file.ensures.other)

pub returns-clause-stands : goal.returns-clause-stands
returns-clause-stands g c =
    let s : ShelfState = g.H.Shelf.state c.args.shelf.now in
    let track = ap (λ (f : FinderState). f.track) c.self.view_is in
    let window = ap (λ (f : FinderState). f.window) c.self.view_is in
    let stands : StandsAt c.enter_file.new.self c.args.at =
    enter_stands c.args.self.now c.args.index.now s (g.met.H.Shelf.well_formed c.args.shelf.now) c.requires.belongs c.args.at c.requires.next c.requires.fits
    c.enter_file.new.window c.enter_file.new.self (rw (track, window) at c.enter_file.ensures.same) (rw (track, window) at c.enter_file.ensures.other) in
    record {
      file_is = c.fill.ensures.same.file_is ∙ stands.file_is;
      offset_is = c.fill.ensures.same.offset_is ∙ stands.offset_is;
    }

pub returns-clause-belongs : goal.returns-clause-belongs
returns-clause-belongs g c =
    let set : SliceSet = c.args.index.now in
    let f : FinderState = c.args.self.now in
    let s : ShelfState = g.H.Shelf.state c.args.shelf.now in
    let t : ShelfState = g.H.Shelf.state c.fill.new.shelf in
    let r = c.fill.ensures in
    let track = ap (λ (x : FinderState). x.track) c.self.view_is in
    let window = ap (λ (x : FinderState). x.window) c.self.view_is in
    let kept : List (Option Hash16) = c.forget.new.self.kept.items in
    let none : kept ≡ replicate (length (compared_lengths (sought_for set f))) None =
    c.forget.ensures ∙ ap (λ (x : FinderState). replicate (length x.kept) None) c.self.view_is
    ∙ ap (λ (n : ℕ). replicate n None) c.requires.belongs.keeps.room in
    let unfilled : f.track.file ≡ c.args.at.file → ¬ (length f.window.content ≡ f.window.capacity) = λ file full.
    elim c.else-at-file.branch [
      | else-at-file-via-then-at-file+else-is_full w ↦
          let is : w.is_full.result ≡ true = w.is_full.ensures.1 (rw window full) in
          let both : true ≡ false = sym is ∙ w.if-is_full.false in cc
      | else-at-file-via-else-at-file w ↦
          absurd (w.if-at-file.false (sym file ∙ sym (ap (λ (x : Track). x.file) track) ∙ sym c.file.ensures))
    ] in
    let belongs : BelongsTo (with_window f c.args.at c.fill.new.window c.fill.new.self kept) set t =
    enter_belongs f set s (g.met.H.Shelf.well_formed c.args.shelf.now) c.requires.belongs c.args.at c.requires.next c.requires.fits
    c.enter_file.new.window c.enter_file.new.self (rw (track, window) at c.enter_file.ensures.same) (rw (track, window) at c.enter_file.ensures.other)
    unfilled t (later_read s t c.enter_file.new.self.file c.fill.result r.shelf) kept none c.fill.new.window c.fill.new.self
    r.tied r.window r.same in
    opened_as (with_window f c.args.at c.fill.new.window c.fill.new.self kept) set t belongs c.self.inside.opening c.self.inside.mode
    (ap (λ (x : FinderState). x.opening) c.self.view_is) (ap (λ (x : FinderState). x.mode) c.self.view_is)

pub returns-clause-along : goal.returns-clause-along
returns-clause-along g c =
    let s : ShelfState = g.H.Shelf.state c.args.shelf.now in
    let track = ap (λ (f : FinderState). f.track) c.self.view_is in
    let window = ap (λ (f : FinderState). f.window) c.self.view_is in
    let counted = ap (λ (f : FinderState). f.digests) c.self.view_is in
    let file : c.enter_file.new.self.file ≡ c.args.at.file =
    enter_file c.args.self.now c.args.index.now s (g.met.H.Shelf.well_formed c.args.shelf.now) c.requires.belongs c.args.at c.requires.next c.requires.fits
    c.enter_file.new.window c.enter_file.new.self (rw (track, window) at c.enter_file.ensures.same) (rw (track, window) at c.enter_file.ensures.other) in
    let same = enter_digests c.args.self.now c.args.index.now s (g.met.H.Shelf.well_formed c.args.shelf.now) c.requires.belongs c.args.at c.requires.next c.requires.fits
    c.enter_file.new.window c.enter_file.new.self (rw (track, window) at c.enter_file.ensures.same) (rw (track, window) at c.enter_file.ensures.other) in
    let filled = ap (λ (w : WindowState). w.digests) c.fill.ensures.window in
    record {
      shelf = subst (λ (n : ℕ). ReadsFile n s (g.H.Shelf.state c.fill.new.shelf) c.fill.result) file c.fill.ensures.shelf;
      reads = hands_more s.lengths s.handed s.handed (g.H.Shelf.state c.fill.new.shelf).handed c.args.self.now.fetched (fetched_of c.enter_file.new.self)
          (fetched_of c.fill.new.self)
          (enter_hands c.args.self.now c.args.index.now s (g.met.H.Shelf.well_formed c.args.shelf.now) c.requires.belongs c.args.at c.requires.next
          c.requires.fits c.enter_file.new.window c.enter_file.new.self (rw (track, window) at c.enter_file.ensures.same) (rw (track, window) at c.enter_file.ensures.other))
          c.fill.ensures.reads;
      opening_is = ap (λ (f : FinderState). f.opening) c.self.view_is;
      mode_is = ap (λ (f : FinderState). f.mode) c.self.view_is;
      no_fewer = omega (arith, counted, same, filled);
    }

pub returns-then-is_full-clause-belongs : goal.returns-then-is_full-clause-belongs
returns-then-is_full-clause-belongs g c =
    let set : SliceSet = c.args.index.now in
    let s : ShelfState = g.H.Shelf.state c.args.shelf.now in
    let same : c.args.self.now.track.file ≡ c.args.at.file =
    sym (ap (λ (f : FinderState). f.track.file) c.self.view_is) ∙ sym c.file.ensures ∙ sym c.if-at-file.true in
    subst (λ (f : FinderState). BelongsTo (with_window f c.args.at f.window f.track f.kept) set s) (sym c.self.view_is)
    (stays_there c.args.self.now set s (g.met.H.Shelf.well_formed c.args.shelf.now) c.requires.belongs c.args.at c.requires.next c.requires.fits same)
