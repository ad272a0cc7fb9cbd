-- The try of a place at which the window is: it returns the first slice that is seen, or moves on
-- to the next mark.
use Rattle.std.proofs.Common.{◌≡◌, ◌≢◌, ℕ, ◌+◌, ◌<◌, ◌≤◌, List, length, replicate, slice_index, refl, sym, ap, ◌∙◌, subst, arith, Option, Some, None, Result, Ok, Err}
use Rattle.std.specs.Option.{unwrap_or}
use Rattle.parshelf.specs.Shelf.{ShelfState, ReadsAs, file_of}
use Rattle.parshelf.specs.Reads.{ReadsOnly, FaultsIn}
use Rattle.parshelf.specs.declared.shelves.reading.ReadFault.{ReadFault}
use Rattle.parshelf.proofs.ReadLaws.{ReadsOnly-refl}
use Rattle.parwindow.specs.Index.{SliceSet, slice_passes}
use Rattle.parwindow.specs.Least.{IsLeastFrom}
use Rattle.parwindow.specs.Window.{WindowState}
use Rattle.parfind.specs.declared.cursors.sighting.Sighting.{Sighting}
use Rattle.parfind.specs.declared.searches.finder.Visit.TheVariants.{Hit, Passed}
use Rattle.parfind.specs.declared.tracks.track.Track.{Track}
use Rattle.parfind.specs.Fetched.{Place, ReadsUpTo}
use Rattle.parfind.specs.Finders.{FinderState, BelongsTo, StandsAt, sought_for}
use Rattle.parfind.specs.KeptDigests.{Keeps, KeepsDigests}
use Rattle.parfind.specs.Sought.{Sought, IsWindowFor, compared_lengths, sought_of}
use Rattle.parfind.specs.declared.searches.finder.Visit.{Visit}
use Rattle.parfind.specs.declared.tracks.mode.Mode.{Mode}
use Rattle.parfield.specs.declared.hash16.Hash16.{Hash16}
use Rattle.parfind.specs.Fitting.{is_fitting_compared}
use Rattle.parfind.specs.NextPlace.{IsAtPlace, IsNextPlace, rest_of}
use Rattle.parfind.specs.Order.{cursor_after}
use Rattle.parfind.specs.Places.{cursor_past, place_at}
use Rattle.parfind.specs.declared.cursors.cursor.Cursor.{Cursor}
use Rattle.parfind.specs.Sightings.{is_slice_seen}
use Rattle.parfind.specs.Tracks.{IsTied, HaveNoComparedCrc, Passes, SameTrack, cursor_of_track, fetched_of}
use Rattle.parfind.proofs.search_laws.AdvanceLaws.{fewer_after, fewer_past, no_more}
use Rattle.parfind.proofs.search_laws.GoesAlongLaws.{goes_still}
use Rattle.parfind.proofs.search_laws.BelongsLaws.{with_window, moves_belongs, stays_belongs}
use Rattle.parfind.proofs.track_laws.KeptDigestLaws.{tied_digest}
use Rattle.parfind.proofs.track_laws.LaterShelfLaws.{Later, later_same, later_only, later_fault}
use Rattle.parfind.proofs.search_laws.FirstSeenLaws.{look_seen, none_there, within_left, one_within}
use Rattle.parfind.proofs.place_laws.CursorOrderLaws.{From}
use Rattle.parfind.proofs.search_laws.PassUnfitLaws.{cursor_on, next_here, passes_some, many_unseen, From-on}
use Rattle.parfind.proofs.search_laws.TryPlaceLaws.{Tried}
use Rattle.parfind.proofs.search_laws.VisitLaws.{visit_hit, visit_stopped, visit_hits, visit_stays}

-- the finder's cursor is at a place, and its full window is there
pub record IsThere (set : SliceSet) (s : ShelfState) (f : FinderState) : Type 0 where
  pub belongs : BelongsTo f set s
  pub counted : f.cursor.file < length s.lengths
  pub there : IsAtPlace s.lengths f.cursor
  pub stands : StandsAt f.track f.cursor
  pub full : length f.window.content ≡ f.window.capacity

-- the first slice was looked for in the window, with `rest` bytes of the file left
pub record Looked
    (set : SliceSet) (s : ShelfState) (f : FinderState) (rest : ℕ) (found : Option ℕ) (w : WindowState) (kept : List (Option Hash16)) : Type 0 where
  pub rest_is : rest ≡ rest_of s.lengths f.cursor
  pub first : IsLeastFrom (slice_passes set.slices (is_fitting_compared f.mode f.window.content rest)) f.cursor.slice found
  pub stays : KeepsDigests f.window f.kept w kept
  pub keeps : Keeps (sought_for set f) w kept

module _ (set : SliceSet) (s : ShelfState) (f : FinderState) (at : IsThere set s f) (left : Option ℕ) (some : left ≢ Some 0)
    (rest : ℕ) (found : Option ℕ) (w : WindowState) (kept : List (Option Hash16)) (looked : Looked set s f rest found w kept) where
  abbrev sought : Sought
  sought = sought_for set f

  here : IsNextPlace s.lengths f.cursor f.cursor
  here = next_here s.lengths f.cursor at.counted at.there

  seen : (files : List (List ℕ)) → ReadsAs s files
      → IsLeastFrom (is_slice_seen sought (file_of files f.cursor.file) f.cursor.offset) f.cursor.slice found
  seen files reads =
      look_seen f set s at.belongs files reads at.stands at.full rest at.there (omega (arith, at.there, looked.rest_is)) found looked.first

  fetched : fetched_of f.track ≡ f.fetched
  fetched = sym at.belongs.fetched_is

  more_digests : f.digests ≤ w.digests
  more_digests =
      let stays = looked.stays in
      omega (arith, at.belongs.digests_are, stays.counted, stays.kept)

  tied : IsTied s w f.track
  tied = tied_digest s f.window w f.track w.digests at.belongs.tied looked.stays.window_is

  made : IsWindowFor sought w
  made =
      let window = looked.stays.window_is in
      record {
        sized = ap (λ (v : WindowState). v.capacity) window ∙ at.belongs.made.sized;
        tails_are = λ mode. ap (λ (v : WindowState). v.tails) window ∙ at.belongs.made.tails_are mode;
        few = at.belongs.made.few;
      }

  -- the window is at a place of the files
  place_there : IsAtPlace s.lengths (cursor_of_track f.track)
  place_there = rw (at.stands.file_is, at.stands.offset_is) at.there

  -- after digests were taken, with the cursor at another slice of the place, the finder still
  -- belongs
  at_belongs : (slice : ℕ) → BelongsTo (with_window f (record f.cursor { slice = slice }) w f.track kept) set s
  at_belongs slice =
      stays_belongs f set s s at.belongs (later_same s) (record f.cursor { slice = slice }) w f.track kept tied looked.keeps
      looked.stays.window_is looked.stays.counted (record { file_is = refl; offset_is = refl }) (λ _. place_there)
      (omega (arith, at.stands.file_is)) (λ _. at.stands.offset_is)

  module _ (n : ℕ) (is : found ≡ Some n) (few : n < length set.slices) where
    abbrev x : Sighting
    x = record { file = f.cursor.file; offset = f.cursor.offset; slice = n }

    low : f.cursor.slice ≤ n
    low = let least = rw is at looked.first in least.at_or_above

    hit_tried : Tried sought left s s f (with_window f (cursor_after x) w f.track kept) (Ok (Hit x))
    hit_tried = record {
      sees = λ files reads. visit_hit sought files s.lengths reads.lengths f.cursor f.cursor here n (rw is at (seen files reads));
      moves = visit_hits s.lengths f.cursor f.cursor here n low;
      advances = (at.counted, few, fewer_after set s.lengths f.cursor f.cursor here n low few);
      within = one_within left some;
      along = record {
        shelf = ReadsOnly-refl s;
        reads = let along = goes_still {A = Unit {0}} s f (record f { fetched = fetched_of f.track }) tt fetched refl refl refl in along.reads;
        opening_is = refl;
        mode_is = refl;
        no_fewer = more_digests;
      };
    }

  -- after that the window slides on, or a read fails
  module _ (t : ShelfState) (v : WindowState) (a : Track) (next_tied : IsTied t v a) (window : v ≡ record w { content = v.content })
      (reads : ReadsUpTo s t (fetched_of f.track) (fetched_of a)) where
    slid_reads : ReadsUpTo s t f.fetched (fetched_of a)
    slid_reads = subst (λ (p : Place). ReadsUpTo s t p (fetched_of a)) fetched reads

    slid_digests : f.digests ≤ v.digests
    slid_digests = omega (arith, more_digests, ap (λ (u : WindowState). u.digests) window)

    module _ (fault : ReadFault) (faults : FaultsIn s t f.track.file fault) (same : SameTrack f.track a) (still : v ≡ w) where
      fault_tried : Tried sought left s t f (with_window f f.cursor v a kept) (Err fault)
      fault_tried = record {
        sees = λ files reads_as.
            let later : Later s t = later_fault s t f.track.file fault faults in
            let before : ReadsAs s files = later.older files reads_as in
            visit_stopped sought files s.lengths before.lengths f.cursor f.cursor here;
        moves = visit_stays s.lengths f.cursor f.cursor here;
        advances = tt;
        within = one_within left some;
        along = record {
          shelf = subst (λ (k : ℕ). FaultsIn s t k fault) at.stands.file_is faults;
          reads = slid_reads;
          opening_is = refl;
          mode_is = refl;
          no_fewer = slid_digests;
        };
      }

      fault_belongs : BelongsTo (with_window f f.cursor v a kept) set t
      fault_belongs =
          stays_belongs f set s t at.belongs (later_fault s t f.track.file fault faults) f.cursor v a kept next_tied
          (rw still looked.keeps) (rw still looked.stays.window_is) (rw still looked.stays.counted) same (λ _. place_there)
          (omega (arith, same.file_is, at.stands.file_is)) (λ _. same.offset_is ∙ at.stands.offset_is)

    module _ (n most : ℕ) (none_kept : List (Option Hash16)) (none_is : none_kept ≡ replicate (length (compared_lengths sought)) None)
        (only : ReadsOnly s t) (same : a.file ≡ f.track.file) (passes : Passes (slice_index s.lengths f.track.file) f.track a most n) where
      pass_tried : found ≡ None → most ≤ unwrap_or left 18446744073709551615
          → ((files : List (List ℕ)) → ReadsAs t files → HaveNoComparedCrc sought (file_of files f.track.file) f.track.window_offset n)
          → Tried sought left s t f (with_window f (cursor_on f.cursor n) v a none_kept) (Ok (Passed n))
      pass_tried is budget none = record {
        sees = λ files reads_as.
            let before : ReadsAs s files = only.older files reads_as in
            many_unseen sought files s.lengths before.lengths f.cursor here n passes.some (rw is at (seen files before))
            (none_there f set s at.belongs files before at.stands n (none files reads_as));
        moves = passes_some s.lengths f.cursor n passes.some at.counted
            (let inside = rw (at.stands.offset_is, at.stands.file_is) at passes.inside in inside);
        advances =
            let past = no_more set s.lengths (cursor_on f.cursor 1) (cursor_on f.cursor n) (From-on f.cursor 1 n passes.some) in
            omega (arith, fewer_past set s.lengths f.cursor f.cursor here, past);
        within = within_left left n 18446744073709551615 (omega (arith, passes.within, budget));
        along = record { shelf = only; reads = slid_reads; opening_is = refl; mode_is = refl; no_fewer = slid_digests };
      }

      pass_onward : (c : Cursor) → c.file ≡ f.track.file → c.offset ≤ f.track.window_offset + 1 → c.slice ≡ 0 → From c (cursor_of_track a)
      pass_onward c file offset first = record {
        by_file = omega (arith, file, same);
        by_offset = λ _. omega (arith, offset, passes.offset_is, passes.some);
        by_slice = λ _ _. omega (arith, first);
      }

      pass_belongs : BelongsTo (with_window f (cursor_on f.cursor n) v a none_kept) set t
      pass_belongs =
          moves_belongs (with_window f f.cursor w f.track kept) set s t (at_belongs f.cursor.slice) (later_only s t only) (cursor_on f.cursor n) v a
          none_kept next_tied none_is window
          (pass_onward (cursor_of_track f.track) refl (omega arith) refl)
          (λ _. pass_onward (cursor_past (place_at (cursor_of_track f.track))) refl (omega arith) refl)
          (omega (arith, same, at.stands.file_is))
          (λ _. passes.offset_is ∙ ap (λ (o : ℕ). o + n) at.stands.offset_is)

-- the same for the finder that a call was given, which is equal to the one inside the call
module _ (set : SliceSet) (s : ShelfState) (f handed : FinderState) (is : f ≡ handed) (there : IsThere set s handed)
    (left : Option ℕ) (some : left ≢ Some 0) (rest : ℕ) (found : Option ℕ) (w : WindowState) (kept : List (Option Hash16))
    (looked : Looked set s f rest found w kept) where
  at : IsThere set s f
  at = subst (IsThere set s) (sym is) there

  -- the clauses of a try, for the finder after it
  abbrev pub TryLeaves : ShelfState → Result Visit ReadFault → FinderState → Type 0
  TryLeaves t tried g = BelongsTo g set t × Tried (sought_for set handed) left s t handed g tried

  leaves_as : (t : ShelfState) (tried : Result Visit ReadFault) (g : FinderState) → BelongsTo g set t
      → Tried (sought_for set f) left s t f g tried → TryLeaves t tried g
  leaves_as t tried g belongs gives =
      (belongs, subst (λ (y : FinderState). Tried (sought_for set y) left s t y g tried) is gives)

  pub hit_inside : (n : ℕ) → found ≡ Some n → n < length set.slices
      → let x : Sighting = record { file = f.cursor.file; offset = f.cursor.offset; slice = n } in
      TryLeaves s (Ok (Hit x)) (with_window f (cursor_after x) w f.track kept)
  hit_inside n hit few =
      let x : Sighting = record { file = f.cursor.file; offset = f.cursor.offset; slice = n } in
      leaves_as s (Ok (Hit x)) (with_window f (cursor_after x) w f.track kept)
      (at_belongs set s f at left some rest found w kept looked (n + 1))
      (hit_tried set s f at left some rest found w kept looked n hit few)

  module _ (t : ShelfState) (v : WindowState) (a : Track) (tied : IsTied t v a) (window : v ≡ record w { content = v.content })
      (reads : ReadsUpTo s t (fetched_of f.track) (fetched_of a)) where
    pub fault_inside : (fault : ReadFault) → FaultsIn s t f.track.file fault → SameTrack f.track a → v ≡ w
        → TryLeaves t (Err fault) (with_window f f.cursor v a kept)
    fault_inside fault faults same still =
        leaves_as t (Err fault) (with_window f f.cursor v a kept)
        (fault_belongs set s f at left some rest found w kept looked t v a tied window reads fault faults same still)
        (fault_tried set s f at left some rest found w kept looked t v a tied window reads fault faults same still)

    pub pass_inside : (n most : ℕ) → (none_kept : List (Option Hash16)) → none_kept ≡ replicate (length kept) None → ReadsOnly s t
        → a.file ≡ f.track.file → Passes (slice_index s.lengths f.track.file) f.track a most n → found ≡ None
        → most ≤ unwrap_or left 18446744073709551615
        → ((m : Mode) → IsWindowFor (sought_of set m) w → (files : List (List ℕ)) → ReadsAs t files
        → HaveNoComparedCrc (sought_of set m) (file_of files f.track.file) f.track.window_offset n)
        → TryLeaves t (Ok (Passed n)) (with_window f (cursor_on f.cursor n) v a none_kept)
    pass_inside n most none_kept none_is only same passes miss budget none =
        let is_none : none_kept ≡ replicate (length (compared_lengths (sought_for set f))) None =
        none_is ∙ ap (λ (k : ℕ). replicate k None) looked.keeps.room in
        leaves_as t (Ok (Passed n)) (with_window f (cursor_on f.cursor n) v a none_kept)
        (pass_belongs set s f at left some rest found w kept looked t v a tied window reads n most none_kept is_none only same passes)
        (pass_tried set s f at left some rest found w kept looked t v a tied window reads n most none_kept is_none only same passes
        miss budget (none f.mode (made set s f at left some rest found w kept looked)))
