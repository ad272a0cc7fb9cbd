-- A finder still belongs to its set and shelf after its window or its cursor has moved.
use Rattle.std.proofs.Common.{◌≡◌, ℕ, ◌+◌, ◌<◌, ◌≤◌, List, length, replicate, refl, sym, ap, ◌∙◌, subst, arith, IsTrue, Option, None, inl, inr}
use Rattle.std.proofs.lemmas.Bool.{cases_eq}
use Rattle.parshelf.specs.Shelf.{ShelfState, ReadsAs, Older}
use Rattle.parwindow.specs.Index.{SliceSet}
use Rattle.parfind.specs.declared.tracks.track.Track.{Track}
use Rattle.parfind.specs.Tracks.{IsTied, SameTrack, cursor_of_track, fetched_of}
use Rattle.parfind.specs.KeptDigests.{Keeps, kept_count}
use Rattle.parfind.specs.Sought.{compared_lengths}
use Rattle.parfind.specs.declared.tracks.mode.Mode.{Mode}
use Rattle.parfind.specs.NextPlace.{IsAtPlace}
use Rattle.parfield.specs.declared.hash16.Hash16.{Hash16}
use Rattle.parfind.proofs.track_laws.KeptDigestLaws.{kept_full, few_kept, count_none, keeps_none, same_cursor, inside_counted}
use Rattle.parwindow.specs.Window.{WindowState}
use Rattle.parfind.specs.declared.cursors.cursor.Cursor.{Cursor}
use Rattle.parfind.specs.Finders.{FinderState, BelongsTo, BelongsLater, sought_for}
use Rattle.parfind.specs.Marks.{marked_between, marks_at}
use Rattle.parfind.specs.Order.{is_from}
use Rattle.parfind.specs.Places.{cursor_past, place_at, place_start}
use Rattle.parfind.specs.Sightings.{Scan}
use Rattle.parfind.specs.Steps.{scan_of, lengths_of}
use Rattle.parfind.proofs.track_laws.LaterShelfLaws.{Later}
use Rattle.parfind.proofs.search_laws.FirstSeenLaws.{window_at_track}
use Rattle.parfind.proofs.place_laws.CrcMatchLaws.{marked_more, marked_rises}
use Rattle.parfind.proofs.place_laws.PlaceLaws.{From-past}
use Rattle.parfind.proofs.place_laws.CursorOrderLaws.{From, From-by_test, From-trans, is_from-true}

-- a finder with another cursor, window, track and list of kept digests
abbrev pub with_window : FinderState → Cursor → WindowState → Track → List (Option Hash16) → FinderState
with_window f d w t kept = record f {
  cursor = d;
  fetched = fetched_of t;
  digests = w.digests;
  window = w;
  track = t;
  kept = kept;
}

-- the digests that were taken are no more than the marks up to a cursor that is after the place of
-- the window, or, if no digest is kept, not before it
pub few_until : (f : FinderState) (set : SliceSet) (s : ShelfState) → BelongsTo f set s → (files : List (List ℕ)) → ReadsAs s files → (d : Cursor)
    → From (cursor_of_track f.track) d → (0 < kept_count f.kept → From (cursor_past (place_at (cursor_of_track f.track))) d)
    → f.window.digests ≤ marked_between (scan_of (sought_for set f) files) f.opening d
few_until f set s belongs files reads d next past =
    let scan : Scan = scan_of (sought_for set f) files in
    let c : Cursor = cursor_of_track f.track in
    let on : From (place_start f.opening) c = From-by_test (place_start f.opening) c belongs.onward in
    elim (cases_eq (kept_count f.kept) 0) [
      | inl none ↦ omega (arith, none, belongs.counted files reads, marked_rises scan f.opening c d on next)
      | inr other ↦
          let some : 0 < kept_count f.kept = omega arith in
          let there = subst (λ (ns : List ℕ). IsAtPlace ns c) (sym reads.lengths) (belongs.kept_there some) in
          let full : length f.window.content ≡ f.window.capacity = kept_full (sought_for set f) f.window f.kept belongs.keeps some in
          let few : kept_count f.kept ≤ marks_at scan (place_at c) =
          rw (← window_at_track f set s belongs files reads full) (few_kept (sought_for set f) f.window f.kept belongs.keeps) in
          let more = marked_more scan f.opening c on (inside_counted (lengths_of scan) c.file c.offset there) there in
          let far : From (cursor_past (place_at c)) d = past some in
          let over : From (place_start f.opening) (cursor_past (place_at c)) = From-trans (place_start f.opening) c (cursor_past (place_at c)) on (From-past c) in
          omega (arith, belongs.counted files reads, few, more, marked_rises scan f.opening (cursor_past (place_at c)) d over far)
    ]

-- a finder still belongs to its set and files after its window moves to another place, if the MD5s
-- that it kept of the old window are dropped
module _ (f : FinderState) (set : SliceSet) (s t : ShelfState) (belongs : BelongsTo f set s) (later : Later s t)
    (d : Cursor) (w : WindowState) (b : Track) (kept : List (Option Hash16)) (tied : IsTied t w b)
    (none : kept ≡ replicate (length (compared_lengths (sought_for set f))) None)
    (window : w ≡ record f.window { content = w.content })
    (onward : From (cursor_of_track f.track) (cursor_of_track b))
    (past : 0 < kept_count f.kept → From (cursor_past (place_at (cursor_of_track f.track))) (cursor_of_track b))
    (not_ahead : b.file ≤ d.file) (here : b.file ≡ d.file → b.window_offset ≡ d.offset) where
  pub moves_belongs : BelongsTo (with_window f d w b kept) set t
  moves_belongs =
      let c : Cursor = cursor_of_track f.track in
      let on : From (place_start f.opening) c = From-by_test (place_start f.opening) c belongs.onward in
      let zero_kept : kept_count kept ≡ 0 = ap kept_count none ∙ count_none (length (compared_lengths (sought_for set f))) in
      record {
        made = record {
          sized = ap (λ (v : WindowState). v.capacity) window ∙ belongs.made.sized;
          tails_are = λ mode. ap (λ (v : WindowState). v.tails) window ∙ belongs.made.tails_are mode;
          few = belongs.made.few;
        };
        keeps = rw none (keeps_none (sought_for set f) w);
        kept_there = λ some. absurd (omega (arith, some, zero_kept));
        tied = tied;
        not_ahead = not_ahead;
        not_past = λ there. omega (arith, here there);
        here = λ there _. here there;
        fetched_is = refl;
        digests_are = refl;
        onward = is_from-true (place_start f.opening) (cursor_of_track b) (From-trans (place_start f.opening) c (cursor_of_track b) on onward);
        counted = λ files reads.
            let same : w.digests ≡ f.window.digests = ap (λ (v : WindowState). v.digests) window in
            let few = few_until f set s belongs files (later.older files reads) (cursor_of_track b) onward past in
            omega (arith, few, same, zero_kept);
      }

-- the finder belongs if its window stays, and all digests that were kept are
module _ (f : FinderState) (set : SliceSet) (s t : ShelfState) (belongs : BelongsTo f set s) (later : Later s t)
    (d : Cursor) (w : WindowState) (b : Track) (kept : List (Option Hash16)) (tied : IsTied t w b)
    (keeps : Keeps (sought_for set f) w kept)
    (window : w ≡ record f.window { digests = w.digests })
    (counts : w.digests + kept_count f.kept ≡ f.window.digests + kept_count kept)
    (same : SameTrack f.track b)
    (there : 0 < kept_count kept → IsAtPlace s.lengths (cursor_of_track f.track))
    (not_ahead : b.file ≤ d.file) (here : b.file ≡ d.file → b.window_offset ≡ d.offset) where
  pub stays_belongs : BelongsTo (with_window f d w b kept) set t
  stays_belongs =
      let c : Cursor = cursor_of_track f.track in
      let at : cursor_of_track b ≡ c = same_cursor f.track b same in
      record {
        made = record {
          sized = ap (λ (v : WindowState). v.capacity) window ∙ belongs.made.sized;
          tails_are = λ mode. ap (λ (v : WindowState). v.tails) window ∙ belongs.made.tails_are mode;
          few = belongs.made.few;
        };
        keeps = keeps;
        kept_there = λ some. subst (IsAtPlace t.lengths) (sym at) (rw later.lengths (there some));
        tied = tied;
        not_ahead = not_ahead;
        not_past = λ file. omega (arith, here file);
        here = λ file _. here file;
        fetched_is = refl;
        digests_are = refl;
        onward = subst (λ (e : Cursor). IsTrue (is_from (place_start f.opening) e)) (sym at) belongs.onward;
        counted = λ files reads.
            let few = belongs.counted files (later.older files reads) in
            let scan : Scan = scan_of (sought_for set f) files in
            let here : w.digests ≤ marked_between scan f.opening c + kept_count kept = omega (arith, few, counts) in
            subst (λ (e : Cursor). w.digests ≤ marked_between scan f.opening e + kept_count kept) (sym at) here;
      }

-- the finder belongs if its cursor goes to a later file
pub later_belongs : (f : FinderState) (set : SliceSet) (s : ShelfState) → BelongsTo f set s → (d : Cursor) → f.cursor.file < d.file
    → BelongsTo (record f { cursor = d }) set s
later_belongs f set s belongs d later = record {
  made = belongs.made;
  keeps = belongs.keeps;
  kept_there = belongs.kept_there;
  tied = belongs.tied;
  not_ahead = omega (arith, belongs.not_ahead);
  not_past = λ there. absurd (omega (arith, there, belongs.not_ahead));
  here = λ there _. absurd (omega (arith, there, belongs.not_ahead));
  fetched_is = belongs.fetched_is;
  digests_are = belongs.digests_are;
  onward = belongs.onward;
  counted = belongs.counted;
}

-- the finder belongs if its opening and its mode are given as those that it has
pub opened_as : (f : FinderState) (set : SliceSet) (s : ShelfState) → BelongsTo f set s → (opening : Cursor) (mode : Mode)
    → opening ≡ f.opening → mode ≡ f.mode → BelongsTo (record f { opening = opening; mode = mode }) set s
opened_as f set s belongs opening mode there same = rw (there, same) belongs

-- the finder belongs to the shelf after others have read on in it

pub tied_later : (w : WindowState) (t : Track) (old new : ShelfState) → IsTied old w t → new.lengths ≡ old.lengths → Older old new → IsTied new w t
tied_later w t old new tied lengths older = record {
  within = tied.within;
  few = tied.few;
  buffer_fits = tied.buffer_fits;
  small = tied.small;
  not_ahead = tied.not_ahead;
  reached = λ before. tied.reached (rw lengths at before);
  content = λ files reads. tied.content files (older files reads);
  ahead = λ files reads. tied.ahead files (older files reads);
}

pub belongs_later : BelongsLater
belongs_later f set old new belongs lengths older = record {
  made = belongs.made;
  keeps = belongs.keeps;
  kept_there = λ some. rw lengths (belongs.kept_there some);
  tied = tied_later f.window f.track old new belongs.tied lengths older;
  not_ahead = belongs.not_ahead;
  not_past = belongs.not_past;
  here = λ there fits. belongs.here there (rw lengths at fits);
  fetched_is = belongs.fetched_is;
  digests_are = belongs.digests_are;
  onward = belongs.onward;
  counted = λ files reads. belongs.counted files (older files reads);
}
