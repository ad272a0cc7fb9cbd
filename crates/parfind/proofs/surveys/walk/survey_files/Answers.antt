use Rattle.std.proofs.Common.{◌≡◌, ◌<◌, ◌≤◌, ◌+◌, ◌||◌, ℕ, true, false, slice_index, length, refl, sym, ap, ◌∙◌, subst, arith, inl, inr}
use Rattle.std.proofs.lemmas.Result.{err_from_is_err_and}
use Rattle.parshelf.specs.Shelf.{ShelfState, file_of}
use Rattle.parshelf.proofs.ReadLaws.{ReadsOnly_more, FaultsIn_more}
use Rattle.parwindow.specs.Index.{SliceSet}
use Rattle.parfind.specs.Smaller.{part_of}
use Rattle.parfind.specs.Sought.{Sought, IsWindowFor, sought_of}
use Rattle.parfind.specs.Noting.{AreExhausted}
use Rattle.parfind.specs.Tracks.{HaveNoComparedCrc}
use Rattle.parfind.specs.Surveying.{SurveyState, survey_at}
use Rattle.parfind.specs.Expecting.{SeesSighted, ShortState, is_strict}
use Rattle.parfind.specs.Waiting.{is_waiting}
use Rattle.parwindow.specs.Index.{set_has_fit}
use Rattle.parwindow.specs.Missing.{missing_set}
use Rattle.parwindow.specs.Window.{WindowState}
use Rattle.parfind.proofs.survey_laws.ExpectingLaws.{fits_file, open_strict, sees_later, sees_more, sees_same, shut, waits_less}
use Rattle.parfind.proofs.survey_laws.LookLaws.{compared_at, fits_left, made_filled, made_noted, part_lent, part_sought, unfit_left}
use Rattle.parfind.proofs.survey_laws.NotedLaws.{found_kept}
use Rattle.parfind.proofs.survey_laws.PartLaws.{part_each, part_kept}
use Rattle.parfind.proofs.survey_laws.RoundLaws.{fits_sooner}
use Rattle.parfind.proofs.survey_laws.SurveyedSoFarLaws.{begins, ends_all, shrunk}
use Rattle.parfind.proofs.survey_laws.SurveyFilesLaws.{enters, fill_fails, look_ends, room, sized, slide_fails, slides}
use Rattle.parfind.proofs.survey_laws.SurveyStates.{ReadOn, SlidOn, missing_left}
use Rattle.parfind.proofs.track_laws.LaterShelfLaws.{later_fault}
use Rattle.parfind.proofs.survey_laws.SurveyGoesOnLaws.{entered_nearer, slid_nearer}
use Rattle.parfind.proofs.track_laws.KeptDigestLaws.{tied_digest}
use Rattle.parfind.proofs.surveys.walk.survey_files.Goals as goal

pub places-init : goal.places-init
places-init g c =
    let old : SurveyState = survey_at (g.H.Shelf.state c.args.shelf.now) c.args.window.now c.args.found.now c.args.track.now in
    let next = c.next_missing-missing.ensures in
    let sought : Sought = c.args.sought.now in
    let short : ShortState = c.args.short.now in
    record {
      so_far = rw c.none-exhausted.ensures (begins short sought (part_of sought.set c.args.smaller.now.index) old c.next_missing-missing.result c.requires.part
          c.requires.made c.requires.small c.requires.empty c.requires.unread
          (record { within = next.within; first = next.missing; settled = next.settled }));
      seen = subst (SeesSighted (g.H.Shelf.state c.args.shelf.now) c.args.short.now) (sym c.misses_files-waits.ensures.same)
          (sees_same (g.H.Shelf.state c.args.shelf.now) c.args.short.now);
      still = λ _. c.none-expected.ensures;
      fits = λ is. let both : true ≡ false = sym is ∙ c.none-expected.ensures in cc;
      none = λ is. c.misses_files-waits.ensures.strict is;
      files = c.misses_files-waits.ensures.fits;
    }

pub places-preserved-then-is_passed : goal.places-preserved-then-is_passed
places-preserved-then-is_passed g c =
    let sought : Sought = c.args.sought.now in
    let short : ShortState = c.args.short.now in
    let old : SurveyState = survey_at (g.H.Shelf.state c.args.shelf.now) c.args.window.now c.args.found.now c.args.track.now in
    let l = c.places in
    let so_far = l.invariant.so_far in
    let part : SliceSet = part_of sought.set l.smaller.index in
    let now : SurveyState = survey_at (g.H.Shelf.state l.shelf) l.window l.found l.track in
    let left : ℕ = c.rest-left.result in
    let open_ : is_strict short ≡ true → l.missing < length l.found = λ is. open_strict l.missing (length l.found) (is_waiting l.expected) l.waits (sym c.is_open.ensures ∙ c.places-test.true) (l.invariant.still is) (l.invariant.none is) in
    let at = missing_left short sought part old now l.missing l.exhausted.crcs left so_far open_ l.auto.found
    c.requires.each (omega (arith, c.if-file-count.true, c.count.ensures, c.file.ensures)) c.rest-left.ensures in
    let entered = rw c.file-next.ensures at (c.enter_file.ensures.other (λ e. absurd (omega (arith, c.file-next.ensures)))) in
    let none = unfit_left short sought part old now l.missing l.exhausted.crcs left c.least_missing-least.result at c.least_missing-least.ensures.least
    ((g.met.H.Shelf.well_formed l.shelf).short l.track.file 0 (omega (arith, c.if-file-count.true, c.count.ensures, c.file.ensures))) (c.is_passed.ensures.passed c.if-is_passed.true) in
    record {
      so_far = rw c.forget.ensures (enters short sought part old now l.missing l.exhausted.crcs left at none c.enter_file.new.window c.enter_file.new.self entered.0 entered.1);
      seen = subst (SeesSighted (g.H.Shelf.state l.shelf) c.args.short.now) (sym c.enter_file-then-is_passed.ensures) l.invariant.seen;
      still = λ _. c.forget-then-is_passed.ensures;
      fits = λ is. let both : true ≡ false = sym is ∙ c.forget-then-is_passed.ensures in cc;
      none = l.invariant.none;
      files = l.invariant.files;
    }

pub returns-in_err-fill-clause-ends : goal.returns-in_err-fill-clause-ends
returns-in_err-fill-clause-ends g c =
    let sought : Sought = c.args.sought.now in
    let short : ShortState = c.args.short.now in
    let old : SurveyState = survey_at (g.H.Shelf.state c.args.shelf.now) c.args.window.now c.args.found.now c.args.track.now in
    let l = c.places in
    let so_far = l.invariant.so_far in
    let part : SliceSet = part_of sought.set l.smaller.index in
    let now : SurveyState = survey_at (g.H.Shelf.state l.shelf) l.window l.found l.track in
    let left : ℕ = c.rest-left.result in
    let open_ : is_strict short ≡ true → l.missing < length l.found = λ is. open_strict l.missing (length l.found) (is_waiting l.expected) l.waits (sym c.is_open.ensures ∙ c.places-test.true) (l.invariant.still is) (l.invariant.none is) in
    let at = missing_left short sought part old now l.missing l.exhausted.crcs left so_far open_ l.auto.found
    c.requires.each (omega (arith, c.if-file-count.true, c.count.ensures, c.file.ensures)) c.rest-left.ensures in
    let all : ℕ = slice_index old.shelf.lengths l.track.file in
    let ahead = c.is_passed.ensures.ahead c.if-is_passed.false in
    let within : left ≤ all = omega (arith, room short sought part old now l.missing l.exhausted.crcs left at) in
    let fits : set_has_fit (missing_set short.set old.found) all ≡ true =
    fits_file (missing_set sought.set old.found) (missing_set short.set old.found) left c.least_missing-least.result c.size-size.result short.set.slice_size all (is_waiting l.expected) l.waits within
    c.size-size.ensures.size c.requires.wider ahead.1
    (fits_left short sought part old now l.missing l.exhausted.crcs left c.least_missing-least.result at c.least_missing-least.ensures.least ((g.met.H.Shelf.well_formed l.shelf).short l.track.file 0 (omega (arith, c.if-file-count.true, c.count.ensures, c.file.ensures)))) l.invariant.fits l.invariant.files in
    let f = c.fill.new in
    let filled : SurveyState = survey_at (g.H.Shelf.state f.shelf) f.window l.found f.self in
    let r = c.in_err-fill.ensures in
    let read = later_fault now.shelf filled.shelf l.track.file c.in_err-fill.field-0.0 c.in_err-fill.ensures.shelf in
    let fill : ReadOn now filled =
    record { found_is = refl; older = read.older; tied = r.tied; window_is = r.window; same = r.same; hands = r.reads } in
    let failed = err_from_is_err_and c.from_residual.result c.from_residual.ensures.1 in
    rw (failed.1, failed.2) (fill_fails short sought part old now l.missing l.exhausted.crcs left at all fits (omega arith) filled fill c.in_err-fill.field-0.0)

pub returns-in_err-fill-clause-seen : goal.returns-in_err-fill-clause-seen
returns-in_err-fill-clause-seen g c =
    let l = c.places in
    let read = later_fault (g.H.Shelf.state l.shelf) (g.H.Shelf.state c.fill.new.shelf) l.track.file c.in_err-fill.field-0.0 c.in_err-fill.ensures.shelf in
    sees_later (g.H.Shelf.state l.shelf) (g.H.Shelf.state c.fill.new.shelf) c.args.short.now l.short read.older l.invariant.seen

pub returns-in_err-fill-clause-shelf : goal.returns-in_err-fill-clause-shelf
returns-in_err-fill-clause-shelf g c =
    let so_far = c.places.invariant.so_far in
    let failed = err_from_is_err_and c.from_residual.result c.from_residual.ensures.1 in
    rw (failed.1, failed.2, c.fill.ensures.same.file_is)
    (FaultsIn_more (g.H.Shelf.state c.args.shelf.now) (g.H.Shelf.state c.places.shelf) (g.H.Shelf.state c.fill.new.shelf)
    c.places.track.file c.in_err-fill.field-0.0 so_far.reads c.in_err-fill.ensures.shelf)

pub note_seen-requires-clause-exhausted : goal.note_seen-requires-clause-exhausted
note_seen-requires-clause-exhausted g c =
    let l = c.places in
    let so_far = l.invariant.so_far in
    let part_is = part_sought c.args.sought.now _ c.or.result.now l.smaller.index c.sought.view_is c.or.ensures in
    subst (λ (s : Sought). AreExhausted s l.found c.rest-left.result l.exhausted.crcs) (sym part_is) (rw c.rest-left.ensures so_far.exhausted_is)

pub note_seen-requires-clause-each : goal.note_seen-requires-clause-each
note_seen-requires-clause-each g c =
    let l = c.places in
    let so_far = l.invariant.so_far in
    let part : SliceSet = part_of c.args.sought.now.set l.smaller.index in
    let part_is = part_sought c.args.sought.now _ c.or.result.now l.smaller.index c.sought.view_is c.or.ensures in
    let each = part_each c.args.sought.now.set l.found part so_far.part_is in
    subst (λ (s : Sought). length l.found ≡ length s.set.slices) (sym part_is) (omega (arith, each, l.auto.found, c.requires.each))

pub note_seen-requires-clause-full : goal.note_seen-requires-clause-full
note_seen-requires-clause-full g c =
    let l = c.places in
    let so_far = l.invariant.so_far in
    let r = c.in_ok-fill.ensures in
    let part_is = part_sought c.args.sought.now _ c.or.result.now l.smaller.index c.sought.view_is c.or.ensures in
    let made = made_filled (sought_of (part_of c.args.sought.now.set l.smaller.index) c.args.sought.now.mode) c.args.window.now l.window c.fill.new.window
    so_far.window_is r.window so_far.made in
    record { made = subst (λ (s : Sought). IsWindowFor s c.fill.new.window) (sym part_is) made; full = r.full }

pub shrink_if_in_vain-requires-clause-part : goal.shrink_if_in_vain-requires-clause-part
shrink_if_in_vain-requires-clause-part g c =
    let l = c.places in
    let so_far = l.invariant.so_far in
    let part : SliceSet = part_of c.args.sought.now.set l.smaller.index in
    part_kept c.args.sought.now.set l.found c.note_seen.new.found part (found_kept _ l.found c.note_seen.new.found c.note_seen.ensures.found) so_far.part_is

pub slide_until_crc-requires-clause-tied : goal.slide_until_crc-requires-clause-tied
slide_until_crc-requires-clause-tied g c =
    let tied = tied_digest (g.H.Shelf.state c.fill.new.shelf) c.fill.new.window c.note_seen.new.window c.fill.new.self _ c.fill.ensures.tied c.note_seen.ensures.digests in
    tied_digest (g.H.Shelf.state c.fill.new.shelf) c.note_seen.new.window c.look.new.window c.fill.new.self _ tied c.look.ensures.window

pub places-preserved : goal.places-preserved
places-preserved g c =
    let sought : Sought = c.args.sought.now in
    let short : ShortState = c.args.short.now in
    let old : SurveyState = survey_at (g.H.Shelf.state c.args.shelf.now) c.args.window.now c.args.found.now c.args.track.now in
    let l = c.places in
    let so_far = l.invariant.so_far in
    let part : SliceSet = part_of sought.set l.smaller.index in
    let now : SurveyState = survey_at (g.H.Shelf.state l.shelf) l.window l.found l.track in
    let left : ℕ = c.rest-left.result in
    let open_ : is_strict short ≡ true → l.missing < length l.found = λ is. open_strict l.missing (length l.found) (is_waiting l.expected) l.waits (sym c.is_open.ensures ∙ c.places-test.true) (l.invariant.still is) (l.invariant.none is) in
    let at = missing_left short sought part old now l.missing l.exhausted.crcs left so_far open_ l.auto.found
    c.requires.each (omega (arith, c.if-file-count.true, c.count.ensures, c.file.ensures)) c.rest-left.ensures in
    let all : ℕ = slice_index old.shelf.lengths l.track.file in
    let ahead = c.is_passed.ensures.ahead c.if-is_passed.false in
    let within : left ≤ all = omega (arith, room short sought part old now l.missing l.exhausted.crcs left at) in
    let fits : set_has_fit (missing_set short.set old.found) all ≡ true =
    fits_file (missing_set sought.set old.found) (missing_set short.set old.found) left c.least_missing-least.result c.size-size.result short.set.slice_size all (is_waiting l.expected) l.waits within
    c.size-size.ensures.size c.requires.wider ahead.1
    (fits_left short sought part old now l.missing l.exhausted.crcs left c.least_missing-least.result at c.least_missing-least.ensures.least ((g.met.H.Shelf.well_formed l.shelf).short l.track.file 0 (omega (arith, c.if-file-count.true, c.count.ensures, c.file.ensures)))) l.invariant.fits l.invariant.files in
    let f = c.fill.new in
    let filled : SurveyState = survey_at (g.H.Shelf.state f.shelf) f.window l.found f.self in
    let r = c.in_ok-fill.ensures in
    let fill : ReadOn now filled =
    record { found_is = refl; older = r.shelf.older; tied = r.tied; window_is = r.window; same = r.same; hands = r.reads } in
    let m = c.note_seen.new in
    let w = c.look.new.window in
    let full : length m.window.content ≡ m.window.capacity = subst (λ (x : WindowState). length x.content ≡ x.capacity) (sym c.note_seen.ensures.digests) r.full in
    let size : m.window.capacity ≡ c.args.short.now.set.slice_size = ap (λ (x : WindowState). x.capacity) c.note_seen.ensures.digests ∙ ap (λ (x : WindowState). x.capacity) r.window
    ∙ sized short sought part old now l.missing l.exhausted.crcs left at ∙ sym c.requires.alike in
    let tied_there = tied_digest (g.H.Shelf.state f.shelf) f.window m.window f.self _ r.tied c.note_seen.ensures.digests in
    let there : f.self.window_offset + left ≡ slice_index (g.H.Shelf.state f.shelf).lengths f.self.file =
    omega (
      arith,
      room short sought part old now l.missing l.exhausted.crcs left at,
      r.same.offset_is,
      ap (λ (n : ℕ). slice_index (g.H.Shelf.state f.shelf).lengths n) r.same.file_is,
      ap (λ (u : ShelfState). slice_index u.lengths l.track.file) r.shelf.counts,
      ap (λ (u : ShelfState). slice_index u.lengths l.track.file) so_far.reads.counts,
    ) in
    let sees = sees_more (g.H.Shelf.state f.shelf) m.window f.self tied_there full left ahead.0 there c.args.short.now l.short c.look.new.self size
    (sees_later now.shelf filled.shelf c.args.short.now l.short r.shelf.older l.invariant.seen) c.look.ensures.seen in
    let last = c.next_missing-missing-in-places in
    let look = compared_at sought _ c.or.result.now l.smaller.index c.sought.view_is c.or.ensures short filled left w m.found l.missing last.result r.full
    ahead.0 c.note_seen.auto.found c.note_seen.ensures.found
    (c.look.ensures.window ∙ ap (λ (x : WindowState). record x { digests = w.digests }) c.note_seen.ensures.digests)
    (λ is. c.look.ensures.strict (l.invariant.seen.strict_is ∙ is) ∙ c.note_seen.ensures.digests)
    (record { within = last.ensures.within; first = last.ensures.missing; settled = last.ensures.settled }) in
    let waits = c.expect_after.new.expected in
    let still : is_strict short ≡ true → is_waiting waits ≡ false = λ is.
    ap is_waiting (c.expect_after.ensures.strict (c.look.ensures.seen.strict_is ∙ l.invariant.seen.strict_is ∙ is))
    ∙ waits_less l.expected c.look.new.expected c.look.ensures.fewer (l.invariant.still is) in
    let no_file : is_strict short ≡ true → c.misses_files-waits-in-places.result ≡ false = λ is.
    c.misses_files-waits-in-places.ensures.strict
    (ap is_strict c.expect_after.ensures.same ∙ c.look.ensures.seen.strict_is ∙ l.invariant.seen.strict_is ∙ is) in
    let some : is_strict short ≡ true → last.result < length m.found = λ is. open_strict last.result (length m.found) (is_waiting waits) c.misses_files-waits-in-places.result
    (sym c.is_open-in-places.ensures ∙ c.if-not-is_open.false) (still is) (no_file is) in
    let p = c.in_ok-slide_until_crc.ensures in
    let s = c.slide_until_crc.new in
    let slid : SlidOn filled w (g.H.Shelf.state s.shelf) s.window s.self =
    record { older = p.shelf.older; tied = p.tied; window_is = p.window; file_is = p.same; hands = p.reads } in
    let made = made_noted (sought_of part sought.mode) c.args.window.now l.window f.window so_far.window_is r.window so_far.made w look.window_is in
    let lent = part_lent sought _ c.or-in-places.result.now l.smaller.index c.sought.view_is c.or-in-places.ensures in
    let on = slides short sought part old now l.missing l.exhausted.crcs left at all fits (omega arith) filled fill r.shelf w m.found last.result look
    some (g.H.Shelf.state s.shelf) s.window s.self slid
    c.in_ok-slide_until_crc.field-0 _ p.passes p.shelf m.self.crcs
    (subst (λ (s : Sought). AreExhausted s m.found left m.self.crcs) (part_sought sought _ c.or.result.now l.smaller.index c.sought.view_is c.or.ensures)
    c.note_seen.ensures.exhausted)
    (λ files reads. subst (λ (given : SliceSet). HaveNoComparedCrc (sought_of given sought.mode) (file_of files f.self.file) f.self.window_offset c.in_ok-slide_until_crc.field-0) lent
    (p.none sought.mode (subst (λ (given : SliceSet). IsWindowFor (sought_of given sought.mode) w) (sym lent) made) files reads)) in
    let v = c.shrink_if_in_vain.ensures in
    let shrank = c.shrink_if_in_vain.new in
    record {
      so_far = shrunk short sought l.smaller.index shrank.smaller.index old (survey_at (g.H.Shelf.state s.shelf) s.window m.found s.self) last.result m.self.crcs
          shrank.exhausted.crcs on v.part v.tails v.crcs;
      seen = subst (SeesSighted (g.H.Shelf.state s.shelf) c.args.short.now)
          (sym (c.distance-in-places.ensures.same ∙ c.misses_files-waits-in-places.ensures.same ∙ c.expect_after.ensures.same))
          (sees_later filled.shelf (g.H.Shelf.state s.shelf) c.args.short.now c.look.new.self p.shelf.older sees);
      still = still;
      fits = λ _. subst (λ (n : ℕ). set_has_fit (missing_set short.set old.found) (slice_index old.shelf.lengths n) ≡ true) (sym (p.same ∙ r.same.file_is)) fits;
      none = no_file;
      files = λ misses. fits_sooner short.set old.found c.requires.all m.found (c.note_seen.auto.found ∙ l.auto.found ∙ c.requires.all)
          (λ n had. found_kept _ l.found m.found c.note_seen.ensures.found n (so_far.surveyed.kept n had)) short.set.slice_size
          (subst (λ (s : SliceSet). set_has_fit (missing_set s m.found) s.slice_size ≡ true) (ap (λ (s : ShortState). s.set) c.expect_after.ensures.same ∙ c.look.ensures.seen.set_is ∙ l.invariant.seen.set_is)
          (c.misses_files-waits-in-places.ensures.fits misses));
    }

pub returns-in_err-slide_until_crc-clause-ends : goal.returns-in_err-slide_until_crc-clause-ends
returns-in_err-slide_until_crc-clause-ends g c =
    let sought : Sought = c.args.sought.now in
    let short : ShortState = c.args.short.now in
    let old : SurveyState = survey_at (g.H.Shelf.state c.args.shelf.now) c.args.window.now c.args.found.now c.args.track.now in
    let l = c.places in
    let so_far = l.invariant.so_far in
    let part : SliceSet = part_of sought.set l.smaller.index in
    let now : SurveyState = survey_at (g.H.Shelf.state l.shelf) l.window l.found l.track in
    let left : ℕ = c.rest-left.result in
    let open_ : is_strict short ≡ true → l.missing < length l.found = λ is. open_strict l.missing (length l.found) (is_waiting l.expected) l.waits (sym c.is_open.ensures ∙ c.places-test.true) (l.invariant.still is) (l.invariant.none is) in
    let at = missing_left short sought part old now l.missing l.exhausted.crcs left so_far open_ l.auto.found
    c.requires.each (omega (arith, c.if-file-count.true, c.count.ensures, c.file.ensures)) c.rest-left.ensures in
    let all : ℕ = slice_index old.shelf.lengths l.track.file in
    let ahead = c.is_passed.ensures.ahead c.if-is_passed.false in
    let within : left ≤ all = omega (arith, room short sought part old now l.missing l.exhausted.crcs left at) in
    let fits : set_has_fit (missing_set short.set old.found) all ≡ true =
    fits_file (missing_set sought.set old.found) (missing_set short.set old.found) left c.least_missing-least.result c.size-size.result short.set.slice_size all (is_waiting l.expected) l.waits within
    c.size-size.ensures.size c.requires.wider ahead.1
    (fits_left short sought part old now l.missing l.exhausted.crcs left c.least_missing-least.result at c.least_missing-least.ensures.least ((g.met.H.Shelf.well_formed l.shelf).short l.track.file 0 (omega (arith, c.if-file-count.true, c.count.ensures, c.file.ensures)))) l.invariant.fits l.invariant.files in
    let f = c.fill.new in
    let filled : SurveyState = survey_at (g.H.Shelf.state f.shelf) f.window l.found f.self in
    let r = c.in_ok-fill.ensures in
    let fill : ReadOn now filled =
    record { found_is = refl; older = r.shelf.older; tied = r.tied; window_is = r.window; same = r.same; hands = r.reads } in
    let m = c.note_seen.new in
    let w = c.look.new.window in
    let last = c.next_missing-missing-in-places in
    let look = compared_at sought _ c.or.result.now l.smaller.index c.sought.view_is c.or.ensures short filled left w m.found l.missing last.result r.full
    ahead.0 c.note_seen.auto.found c.note_seen.ensures.found
    (c.look.ensures.window ∙ ap (λ (x : WindowState). record x { digests = w.digests }) c.note_seen.ensures.digests)
    (λ is. c.look.ensures.strict (l.invariant.seen.strict_is ∙ is) ∙ c.note_seen.ensures.digests)
    (record { within = last.ensures.within; first = last.ensures.missing; settled = last.ensures.settled }) in
    let waits = c.expect_after.new.expected in
    let still : is_strict short ≡ true → is_waiting waits ≡ false = λ is.
    ap is_waiting (c.expect_after.ensures.strict (c.look.ensures.seen.strict_is ∙ l.invariant.seen.strict_is ∙ is))
    ∙ waits_less l.expected c.look.new.expected c.look.ensures.fewer (l.invariant.still is) in
    let no_file : is_strict short ≡ true → c.misses_files-waits-in-places.result ≡ false = λ is.
    c.misses_files-waits-in-places.ensures.strict
    (ap is_strict c.expect_after.ensures.same ∙ c.look.ensures.seen.strict_is ∙ l.invariant.seen.strict_is ∙ is) in
    let some : is_strict short ≡ true → last.result < length m.found = λ is. open_strict last.result (length m.found) (is_waiting waits) c.misses_files-waits-in-places.result
    (sym c.is_open-in-places.ensures ∙ c.if-not-is_open.false) (still is) (no_file is) in
    let p = c.in_err-slide_until_crc.ensures in
    let s = c.slide_until_crc.new in
    let read = later_fault filled.shelf (g.H.Shelf.state s.shelf) f.self.file c.in_err-slide_until_crc.field-0.0 p.shelf in
    let slid : SlidOn filled w (g.H.Shelf.state s.shelf) s.window s.self =
    record { older = read.older; tied = p.tied; window_is = p.window; file_is = p.same; hands = p.reads } in
    let failed = err_from_is_err_and c.from_residual-in_err-slide_until_crc.result c.from_residual-in_err-slide_until_crc.ensures.1 in
    rw (failed.1, failed.2)
    (slide_fails short sought part old now l.missing l.exhausted.crcs left at all fits (omega arith) filled fill r.shelf w m.found last.result look
    some (g.H.Shelf.state s.shelf) s.window s.self slid
    c.in_err-slide_until_crc.field-0.0 p.stays.0.offset_is)

pub returns-in_err-slide_until_crc-clause-seen : goal.returns-in_err-slide_until_crc-clause-seen
returns-in_err-slide_until_crc-clause-seen g c =
    let sought : Sought = c.args.sought.now in
    let short : ShortState = c.args.short.now in
    let old : SurveyState = survey_at (g.H.Shelf.state c.args.shelf.now) c.args.window.now c.args.found.now c.args.track.now in
    let l = c.places in
    let so_far = l.invariant.so_far in
    let part : SliceSet = part_of sought.set l.smaller.index in
    let now : SurveyState = survey_at (g.H.Shelf.state l.shelf) l.window l.found l.track in
    let left : ℕ = c.rest-left.result in
    let open_ : is_strict short ≡ true → l.missing < length l.found = λ is. open_strict l.missing (length l.found) (is_waiting l.expected) l.waits (sym c.is_open.ensures ∙ c.places-test.true) (l.invariant.still is) (l.invariant.none is) in
    let at = missing_left short sought part old now l.missing l.exhausted.crcs left so_far open_ l.auto.found
    c.requires.each (omega (arith, c.if-file-count.true, c.count.ensures, c.file.ensures)) c.rest-left.ensures in
    let ahead = c.is_passed.ensures.ahead c.if-is_passed.false in
    let f = c.fill.new in
    let filled : SurveyState = survey_at (g.H.Shelf.state f.shelf) f.window l.found f.self in
    let r = c.in_ok-fill.ensures in
    let fill : ReadOn now filled =
    record { found_is = refl; older = r.shelf.older; tied = r.tied; window_is = r.window; same = r.same; hands = r.reads } in
    let m = c.note_seen.new in
    let w = c.look.new.window in
    let full : length m.window.content ≡ m.window.capacity = subst (λ (x : WindowState). length x.content ≡ x.capacity) (sym c.note_seen.ensures.digests) r.full in
    let size : m.window.capacity ≡ c.args.short.now.set.slice_size = ap (λ (x : WindowState). x.capacity) c.note_seen.ensures.digests ∙ ap (λ (x : WindowState). x.capacity) r.window
    ∙ sized short sought part old now l.missing l.exhausted.crcs left at ∙ sym c.requires.alike in
    let tied_there = tied_digest (g.H.Shelf.state f.shelf) f.window m.window f.self _ r.tied c.note_seen.ensures.digests in
    let there : f.self.window_offset + left ≡ slice_index (g.H.Shelf.state f.shelf).lengths f.self.file =
    omega (
      arith,
      room short sought part old now l.missing l.exhausted.crcs left at,
      r.same.offset_is,
      ap (λ (n : ℕ). slice_index (g.H.Shelf.state f.shelf).lengths n) r.same.file_is,
      ap (λ (u : ShelfState). slice_index u.lengths l.track.file) r.shelf.counts,
      ap (λ (u : ShelfState). slice_index u.lengths l.track.file) so_far.reads.counts,
    ) in
    let sees = sees_more (g.H.Shelf.state f.shelf) m.window f.self tied_there full left ahead.0 there c.args.short.now l.short c.look.new.self size
    (sees_later now.shelf filled.shelf c.args.short.now l.short r.shelf.older l.invariant.seen) c.look.ensures.seen in
    let s = c.slide_until_crc.new in
    let read = later_fault filled.shelf (g.H.Shelf.state s.shelf) f.self.file c.in_err-slide_until_crc.field-0.0 c.in_err-slide_until_crc.ensures.shelf in
    subst (SeesSighted (g.H.Shelf.state s.shelf) c.args.short.now)
    (sym (c.distance-in-places.ensures.same ∙ c.misses_files-waits-in-places.ensures.same ∙ c.expect_after.ensures.same))
    (sees_later filled.shelf (g.H.Shelf.state s.shelf) c.args.short.now c.look.new.self read.older sees)

pub returns-in_err-slide_until_crc-clause-shelf : goal.returns-in_err-slide_until_crc-clause-shelf
returns-in_err-slide_until_crc-clause-shelf g c =
    let s : ShelfState = g.H.Shelf.state c.args.shelf.now in
    let full : ShelfState = g.H.Shelf.state c.fill.new.shelf in
    let so_far = c.places.invariant.so_far in
    let only = ReadsOnly_more s (g.H.Shelf.state c.places.shelf) full so_far.reads c.in_ok-fill.ensures.shelf in
    let failed = err_from_is_err_and c.from_residual-in_err-slide_until_crc.result c.from_residual-in_err-slide_until_crc.ensures.1 in
    rw (failed.1, failed.2, c.in_err-slide_until_crc.ensures.stays.0.file_is)
    (FaultsIn_more s full (g.H.Shelf.state c.slide_until_crc.new.shelf) c.fill.new.self.file c.in_err-slide_until_crc.field-0.0 only
    c.in_err-slide_until_crc.ensures.shelf)

pub returns-after-places-clause-ends : goal.returns-after-places-clause-ends
returns-after-places-clause-ends g c =
    let old : SurveyState = survey_at (g.H.Shelf.state c.args.shelf.now) c.args.window.now c.args.found.now c.args.track.now in
    let l = c.places in
    ends_all c.args.short.now c.args.sought.now (part_of c.args.sought.now.set l.smaller.index) old (survey_at (g.H.Shelf.state l.shelf) l.window l.found l.track) l.missing l.exhausted.crcs l.invariant.so_far
    (inl (shut l.missing (length l.found) (is_waiting l.expected || l.waits) (sym c.is_open.ensures ∙ c.places-test.false)))

pub returns-else-file-count-clause-ends : goal.returns-else-file-count-clause-ends
returns-else-file-count-clause-ends g c =
    let old : SurveyState = survey_at (g.H.Shelf.state c.args.shelf.now) c.args.window.now c.args.found.now c.args.track.now in
    let l = c.places in
    let so_far = l.invariant.so_far in
    ends_all c.args.short.now c.args.sought.now (part_of c.args.sought.now.set l.smaller.index) old (survey_at (g.H.Shelf.state l.shelf) l.window l.found l.track) l.missing l.exhausted.crcs so_far
    (inr (omega (arith, c.if-file-count.false, c.count.ensures, c.file.ensures, ap (λ (u : ShelfState). length u.lengths) so_far.reads.counts)))

pub returns-then-not-is_open-clause-ends : goal.returns-then-not-is_open-clause-ends
returns-then-not-is_open-clause-ends g c =
    let sought : Sought = c.args.sought.now in
    let short : ShortState = c.args.short.now in
    let old : SurveyState = survey_at (g.H.Shelf.state c.args.shelf.now) c.args.window.now c.args.found.now c.args.track.now in
    let l = c.places in
    let so_far = l.invariant.so_far in
    let part : SliceSet = part_of sought.set l.smaller.index in
    let now : SurveyState = survey_at (g.H.Shelf.state l.shelf) l.window l.found l.track in
    let left : ℕ = c.rest-left.result in
    let open_ : is_strict short ≡ true → l.missing < length l.found = λ is. open_strict l.missing (length l.found) (is_waiting l.expected) l.waits (sym c.is_open.ensures ∙ c.places-test.true) (l.invariant.still is) (l.invariant.none is) in
    let at = missing_left short sought part old now l.missing l.exhausted.crcs left so_far open_ l.auto.found
    c.requires.each (omega (arith, c.if-file-count.true, c.count.ensures, c.file.ensures)) c.rest-left.ensures in
    let all : ℕ = slice_index old.shelf.lengths l.track.file in
    let ahead = c.is_passed.ensures.ahead c.if-is_passed.false in
    let within : left ≤ all = omega (arith, room short sought part old now l.missing l.exhausted.crcs left at) in
    let fits : set_has_fit (missing_set short.set old.found) all ≡ true =
    fits_file (missing_set sought.set old.found) (missing_set short.set old.found) left c.least_missing-least.result c.size-size.result short.set.slice_size all (is_waiting l.expected) l.waits within
    c.size-size.ensures.size c.requires.wider ahead.1
    (fits_left short sought part old now l.missing l.exhausted.crcs left c.least_missing-least.result at c.least_missing-least.ensures.least ((g.met.H.Shelf.well_formed l.shelf).short l.track.file 0 (omega (arith, c.if-file-count.true, c.count.ensures, c.file.ensures)))) l.invariant.fits l.invariant.files in
    let f = c.fill.new in
    let filled : SurveyState = survey_at (g.H.Shelf.state f.shelf) f.window l.found f.self in
    let r = c.in_ok-fill.ensures in
    let fill : ReadOn now filled =
    record { found_is = refl; older = r.shelf.older; tied = r.tied; window_is = r.window; same = r.same; hands = r.reads } in
    let m = c.note_seen.new in
    let w = c.look.new.window in
    let last = c.next_missing-missing-in-places in
    let look = compared_at sought _ c.or.result.now l.smaller.index c.sought.view_is c.or.ensures short filled left w m.found l.missing last.result r.full
    ahead.0 c.note_seen.auto.found c.note_seen.ensures.found
    (c.look.ensures.window ∙ ap (λ (x : WindowState). record x { digests = w.digests }) c.note_seen.ensures.digests)
    (λ is. c.look.ensures.strict (l.invariant.seen.strict_is ∙ is) ∙ c.note_seen.ensures.digests)
    (record { within = last.ensures.within; first = last.ensures.missing; settled = last.ensures.settled }) in
    let waits = c.expect_after.new.expected in
    let still : is_strict short ≡ true → is_waiting waits ≡ false = λ is.
    ap is_waiting (c.expect_after.ensures.strict (c.look.ensures.seen.strict_is ∙ l.invariant.seen.strict_is ∙ is))
    ∙ waits_less l.expected c.look.new.expected c.look.ensures.fewer (l.invariant.still is) in
    look_ends short sought part old now l.missing l.exhausted.crcs left at all fits (omega arith) filled fill r.shelf w m.found last.result look
    (shut last.result (length m.found) (is_waiting waits || c.misses_files-waits-in-places.result) (sym c.is_open-in-places.ensures ∙ c.if-not-is_open.true))

pub returns-then-not-is_open-clause-seen : goal.returns-then-not-is_open-clause-seen
returns-then-not-is_open-clause-seen g c =
    let sought : Sought = c.args.sought.now in
    let short : ShortState = c.args.short.now in
    let old : SurveyState = survey_at (g.H.Shelf.state c.args.shelf.now) c.args.window.now c.args.found.now c.args.track.now in
    let l = c.places in
    let so_far = l.invariant.so_far in
    let part : SliceSet = part_of sought.set l.smaller.index in
    let now : SurveyState = survey_at (g.H.Shelf.state l.shelf) l.window l.found l.track in
    let left : ℕ = c.rest-left.result in
    let open_ : is_strict short ≡ true → l.missing < length l.found = λ is. open_strict l.missing (length l.found) (is_waiting l.expected) l.waits (sym c.is_open.ensures ∙ c.places-test.true) (l.invariant.still is) (l.invariant.none is) in
    let at = missing_left short sought part old now l.missing l.exhausted.crcs left so_far open_ l.auto.found
    c.requires.each (omega (arith, c.if-file-count.true, c.count.ensures, c.file.ensures)) c.rest-left.ensures in
    let ahead = c.is_passed.ensures.ahead c.if-is_passed.false in
    let f = c.fill.new in
    let filled : SurveyState = survey_at (g.H.Shelf.state f.shelf) f.window l.found f.self in
    let r = c.in_ok-fill.ensures in
    let fill : ReadOn now filled =
    record { found_is = refl; older = r.shelf.older; tied = r.tied; window_is = r.window; same = r.same; hands = r.reads } in
    let m = c.note_seen.new in
    let w = c.look.new.window in
    let full : length m.window.content ≡ m.window.capacity = subst (λ (x : WindowState). length x.content ≡ x.capacity) (sym c.note_seen.ensures.digests) r.full in
    let size : m.window.capacity ≡ c.args.short.now.set.slice_size = ap (λ (x : WindowState). x.capacity) c.note_seen.ensures.digests ∙ ap (λ (x : WindowState). x.capacity) r.window
    ∙ sized short sought part old now l.missing l.exhausted.crcs left at ∙ sym c.requires.alike in
    let tied_there = tied_digest (g.H.Shelf.state f.shelf) f.window m.window f.self _ r.tied c.note_seen.ensures.digests in
    let there : f.self.window_offset + left ≡ slice_index (g.H.Shelf.state f.shelf).lengths f.self.file =
    omega (
      arith,
      room short sought part old now l.missing l.exhausted.crcs left at,
      r.same.offset_is,
      ap (λ (n : ℕ). slice_index (g.H.Shelf.state f.shelf).lengths n) r.same.file_is,
      ap (λ (u : ShelfState). slice_index u.lengths l.track.file) r.shelf.counts,
      ap (λ (u : ShelfState). slice_index u.lengths l.track.file) so_far.reads.counts,
    ) in
    let sees = sees_more (g.H.Shelf.state f.shelf) m.window f.self tied_there full left ahead.0 there c.args.short.now l.short c.look.new.self size
    (sees_later now.shelf filled.shelf c.args.short.now l.short r.shelf.older l.invariant.seen) c.look.ensures.seen in
    subst (SeesSighted (g.H.Shelf.state f.shelf) c.args.short.now) (sym (c.misses_files-waits-in-places.ensures.same ∙ c.expect_after.ensures.same)) sees

pub returns-then-not-is_open-clause-shelf : goal.returns-then-not-is_open-clause-shelf
returns-then-not-is_open-clause-shelf g c =
    let so_far = c.places.invariant.so_far in
    ReadsOnly_more _ _ _ so_far.reads c.in_ok-fill.ensures.shelf

pub places-smaller : goal.places-smaller
places-smaller g c =
    let l = c.places in
    let so_far = l.invariant.so_far in
    let mid : ShelfState = g.H.Shelf.state l.shelf in
    let r = c.in_ok-fill.ensures in
    let p = c.in_ok-slide_until_crc.ensures in
    let counted : l.track.file < length mid.lengths = omega (arith, c.if-file-count.true, c.count.ensures, c.file.ensures) in
    let small : l.track.window_offset < 9223372036854775808 =
    omega (arith, so_far.inside counted, (g.met.H.Shelf.well_formed l.shelf).short l.track.file 0 counted) in
    slid_nearer (length mid.lengths) l.track.file l.track.window_offset counted small _ _ _ c.in_ok-slide_until_crc.field-0
    (ap (λ (u : ShelfState). length u.lengths) p.shelf.counts ∙ ap (λ (u : ShelfState). length u.lengths) r.shelf.counts) (p.same ∙ r.same.file_is)
    (omega (arith, p.passes.offset_is, r.same.offset_is)) p.passes.some

pub places-smaller-then-is_passed : goal.places-smaller-then-is_passed
places-smaller-then-is_passed g c =
    let l = c.places in
    let so_far = l.invariant.so_far in
    let mid : ShelfState = g.H.Shelf.state l.shelf in
    let counted : l.track.file < length mid.lengths = omega (arith, c.if-file-count.true, c.count.ensures, c.file.ensures) in
    let small : l.track.window_offset < 9223372036854775808 =
    omega (arith, so_far.inside counted, (g.met.H.Shelf.well_formed l.shelf).short l.track.file 0 counted) in
    let entered = rw c.file-next.ensures at (c.enter_file.ensures.other (λ e. absurd (omega (arith, c.file-next.ensures)))) in
    entered_nearer (length mid.lengths) l.track.file l.track.window_offset counted small _ _ entered.0.file_is entered.0.offset_is
