-- A finder that goes to the next place: its window stays with its file, or starts empty in another
-- one.
use Rattle.std.proofs.Common.{◌≡◌, ◌≢◌, ℕ, ◌<◌, ◌≤◌, ◌^◌, List, [], length, replicate, slice_index, Option, None, refl, sym, ap, ◌∙◌, subst, arith, inl, inr}
use Rattle.std.proofs.lemmas.Bool.{cases_eq}
use Rattle.parshelf.specs.Shelf.{ShelfState, IsShelf, file_of}
use Rattle.parset.specs.Limits.{slice_size_limit}
use Rattle.parwindow.specs.Index.{SliceSet}
use Rattle.parwindow.specs.Window.{WindowState}
use Rattle.parfind.specs.declared.cursors.cursor.Cursor.{Cursor}
use Rattle.parfind.specs.declared.tracks.track.Track.{Track}
use Rattle.parfind.specs.Fetched.{Place, HandsUpTo, ReadsUpTo}
use Rattle.parfind.specs.Tracks.{IsTied, IsUnread, SameTrack, cursor_of_track, fetched_of}
use Rattle.parfind.specs.Sought.{compared_lengths}
use Rattle.parfield.specs.declared.hash16.Hash16.{Hash16}
use Rattle.parfind.specs.Places.{cursor_past, place_at}
use Rattle.parfind.proofs.search_laws.BelongsLaws.{with_window, moves_belongs, stays_belongs}
use Rattle.parfind.proofs.track_laws.KeptDigestLaws.{kept_full, same_cursor}
use Rattle.parfind.proofs.track_laws.FetchedLaws.{hands_none, hands_enter}
use Rattle.parfind.proofs.track_laws.LaterShelfLaws.{Later, later_same}
use Rattle.parfind.proofs.track_laws.NextBytesLaws.{no_bytes}
use Rattle.parfind.specs.Finders.{FinderState, BelongsTo, StandsAt, sought_for}
use Rattle.parfind.specs.NextPlace.{HasFit, IsNextPlace}
use Rattle.parfind.proofs.place_laws.CursorOrderLaws.{From, From-by_test, From-refl, is_from-true}

-- an empty window, for which nothing was read, goes along any file
pub unread_tied : (s : ShelfState) (v w : WindowState) (file offset : ℕ) (t : Track) → offset < 2 ^ 63 → v.capacity ≤ slice_size_limit
    → IsUnread file offset t → w ≡ record v { content = [] } → IsTied s w t
unread_tied s v w file offset t small few unread empty =
    subst (λ (x : WindowState). IsTied s x t) (sym empty) (record {
      within = omega arith;
      few = few;
      buffer_fits = omega (arith, unread.buffer_len_is);
      small = omega (arith, unread.buffer_offset_is, unread.buffer_len_is);
      not_ahead = omega (arith, unread.buffer_offset_is, unread.offset_is);
      reached = λ _. omega (arith, unread.buffer_offset_is, unread.offset_is, unread.buffer_len_is);
      content = λ files _. no_bytes (file_of files t.file) t.window_offset;
      ahead = λ files _. rw unread.buffer_len_is (no_bytes (file_of files t.file) t.buffer_offset);
    })

module _ (f : FinderState) (set : SliceSet) (s : ShelfState) (shelf : IsShelf s) (belongs : BelongsTo f set s) (at : Cursor)
    (next : IsNextPlace s.lengths f.cursor at) (fits : HasFit set s.lengths at) where
  -- if the next place is in the cursor's file, it is at the cursor's offset
  next_offset_same : f.cursor.file ≡ at.file → f.cursor.offset ≡ at.offset
  next_offset_same same =
      let on : From f.cursor at = From-by_test f.cursor at next.onward in
      let place : slice_index s.lengths f.cursor.file ≡ slice_index s.lengths at.file = ap (λ (n : ℕ). slice_index s.lengths n) same in
      let inside : f.cursor.offset < slice_index s.lengths f.cursor.file = omega (arith, on.by_offset same, next.there, place) in
      let back : From at f.cursor =
      From-by_test at f.cursor (next.least f.cursor (is_from-true f.cursor f.cursor (From-refl f.cursor)) inside) in
      omega (arith, on.by_offset same, back.by_offset (sym same))

  -- if the window is in the file of the next place, it is at that place, and its digests stay
  pub stands_there : f.track.file ≡ at.file → StandsAt f.track at
  stands_there same =
      let on : From f.cursor at = From-by_test f.cursor at next.onward in
      let files : f.cursor.file ≡ at.file = omega (arith, on.by_file, belongs.not_ahead) in
      let offset : f.cursor.offset ≡ at.offset = next_offset_same files in
      let room : HasFit set s.lengths f.cursor = rw (files, offset) fits in
      record { file_is = same; offset_is = belongs.here (same ∙ sym files) room ∙ offset }

  pub stays_there : f.track.file ≡ at.file → BelongsTo (with_window f at f.window f.track f.kept) set s
  stays_there same =
      let stands : StandsAt f.track at = stands_there same in
      stays_belongs f set s s belongs (later_same s) at f.window f.track f.kept belongs.tied belongs.keeps refl refl
      (record { file_is = refl; offset_is = refl }) belongs.kept_there (omega (arith, same)) (λ _. stands.offset_is)

  module _ (w : WindowState) (t : Track) (stays : f.track.file ≡ at.file → (t ≡ f.track) × (w ≡ f.window))
      (enters : f.track.file ≢ at.file → IsUnread at.file at.offset t × (w ≡ record f.window { content = [] })) where
    small_offset : at.offset < 2 ^ 63
    small_offset = omega (arith, next.there, shelf.short at.file 0 next.counted)

    pub enter_tied : IsTied s w t
    enter_tied = elim (cases_eq f.track.file at.file) [
      | inl same ↦
          let here = stays same in
          subst (λ (x : WindowState). IsTied s x t) (sym here.1) (subst (λ (u : Track). IsTied s f.window u) (sym here.0) belongs.tied)
      | inr other ↦
          let there = enters other in
          unread_tied s f.window w at.file at.offset t small_offset belongs.tied.few there.0 there.1
    ]

    pub enter_file : t.file ≡ at.file
    enter_file = elim (cases_eq f.track.file at.file) [
      | inl same ↦ ap (λ (u : Track). u.file) (stays same).0 ∙ same
      | inr other ↦ (enters other).0.file_is
    ]

    pub enter_held : t.window_offset ≡ at.offset
    enter_held = elim (cases_eq f.track.file at.file) [
      | inl same ↦
          let on : From f.cursor at = From-by_test f.cursor at next.onward in
          let files : f.cursor.file ≡ at.file = omega (arith, on.by_file, belongs.not_ahead) in
          let offset : f.cursor.offset ≡ at.offset = next_offset_same files in
          let room : HasFit set s.lengths f.cursor = rw (files, offset) fits in
          ap (λ (u : Track). u.window_offset) (stays same).0 ∙ belongs.here (same ∙ sym files) room ∙ offset
      | inr other ↦ (enters other).0.offset_is
    ]

    pub enter_stands : StandsAt t at
    enter_stands = record { file_is = enter_file; offset_is = enter_held }

    pub enter_hands : ReadsUpTo s s f.fetched (fetched_of t)
    enter_hands =
        let from : f.fetched ≡ fetched_of f.track = belongs.fetched_is in
        elim (cases_eq f.track.file at.file) [
          | inl same ↦
              let is : f.fetched ≡ fetched_of t = from ∙ sym (ap fetched_of (stays same).0) in
              subst (λ (q : Place). HandsUpTo s.lengths s.handed s.handed f.fetched q) is (hands_none s.lengths s.handed f.fetched)
          | inr other ↦
              let on : From f.cursor at = From-by_test f.cursor at next.onward in
              hands_enter s.lengths s.handed f.fetched (fetched_of t)
              (omega (arith, ap (λ (p : Place). p.file) from, (enters other).0.file_is, on.by_file, belongs.not_ahead))
        ]

    enter_window : w ≡ record f.window { content = w.content }
    enter_window = elim (cases_eq f.track.file at.file) [
      | inl same ↦ rw (stays same).1 refl
      | inr other ↦ rw (enters other).1 refl
    ]

    pub enter_digests : w.digests ≡ f.window.digests
    enter_digests = ap (λ (x : WindowState). x.digests) enter_window

    -- the place of a window that entered another file is after each place of the file that it left
    further : f.track.file ≢ at.file → (c : Cursor) → c.file ≡ f.track.file → From c (cursor_of_track t)
    further other c is =
        let on : From f.cursor at = From-by_test f.cursor at next.onward in
        let file : t.file ≡ at.file = (enters other).0.file_is in
        record {
          by_file = omega (arith, is, belongs.not_ahead, on.by_file, file);
          by_offset = λ e. absurd (other (sym is ∙ e ∙ file));
          by_slice = λ e _. absurd (other (sym is ∙ e ∙ file));
        }

    enter_onward : From (cursor_of_track f.track) (cursor_of_track t)
    enter_onward = elim (cases_eq f.track.file at.file) [
      | inl same ↦
          let here = ap cursor_of_track (stays same).0 in
          subst (From (cursor_of_track f.track)) (sym here) (From-refl (cursor_of_track f.track))
      | inr other ↦ further other (cursor_of_track f.track) refl
    ]

    -- after the window was filled there, the finder belongs
    pub enter_belongs : (f.track.file ≡ at.file → ¬ (length f.window.content ≡ f.window.capacity)) → (u : ShelfState) → Later s u
        → (kept : List (Option Hash16)) → kept ≡ replicate (length (compared_lengths (sought_for set f))) None
        → (v : WindowState) (a : Track) → IsTied u v a → v ≡ record w { content = v.content } → SameTrack t a
        → BelongsTo (with_window f at v a kept) set u
    enter_belongs unfilled u later kept none v a tied filled same =
        let stands : cursor_of_track a ≡ cursor_of_track t = same_cursor t a same in
        moves_belongs f set s u belongs later at v a kept tied none
        (filled ∙ ap (λ (x : WindowState). record x { content = v.content }) enter_window)
        (rw stands enter_onward)
        (λ some. rw stands (elim (cases_eq f.track.file at.file) [
          | inl here ↦ absurd (unfilled here (kept_full (sought_for set f) f.window f.kept belongs.keeps some))
          | inr other ↦ further other (cursor_past (place_at (cursor_of_track f.track))) refl
        ]))
        (omega (arith, same.file_is, enter_file)) (λ _. same.offset_is ∙ enter_held)
