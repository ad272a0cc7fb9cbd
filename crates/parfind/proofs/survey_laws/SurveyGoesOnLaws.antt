-- A survey that goes on: over reads, past a place that it looked at, to the next place with the
-- CRC-32 of a slice, and to the next file.
use Rattle.std.proofs.Common.{◌≡◌, ℕ, ◌+◌, ◌-◌, ◌*◌, ◌<◌, ◌≤◌, true, false, List, [], length, refl, sym, ap, ◌∙◌, subst, arith, inl, inr, slice_index}
use Rattle.std.proofs.lemmas.Bool.{cases_eq}
use Rattle.parfind.specs.Expecting.{ShortState, is_strict}
use Rattle.parshelf.specs.Shelf.{ShelfState, ReadsAs, Older, file_of}
use Rattle.parshelf.specs.Reads.{ReadsOnly}
use Rattle.parshelf.proofs.ReadLaws.{ReadsOnly_more}
use Rattle.parshelf.proofs.ShelfLaws.{length-file_of}
use Rattle.parwindow.specs.Index.{SliceSet, slice_passes, set_has_fit}
use Rattle.parwindow.specs.Missing.{missing_set}
use Rattle.parwindow.specs.Window.{WindowState, window_at}
use Rattle.parfind.specs.declared.cursors.cursor.Cursor.{Cursor}
use Rattle.parfind.specs.Fitting.{is_fitting_compared}
use Rattle.parfind.specs.Fetched.{ReadsUpTo}
use Rattle.parfind.specs.Tracks.{IsTied, SameTrack, IsUnread, HaveNoComparedCrc, fetched_of}
use Rattle.parfind.proofs.track_laws.FetchedLaws.{hands_enter}
use Rattle.parfind.proofs.track_laws.NextBytesLaws.{whole_window}
use Rattle.parfind.specs.Noting.{FindsMore, TakesDigests}
use Rattle.parfind.specs.Marks.{count_missing}
use Rattle.parfind.specs.Smaller.{IsPart}
use Rattle.parfind.specs.Sought.{Sought, IsWindowFor, sought_of}
use Rattle.parfind.specs.Order.{cursor_of}
use Rattle.parfind.specs.Sightings.{Scan, is_slice_seen, sightings_of, sightings_between}
use Rattle.parfind.specs.Steps.{scan_of}
use Rattle.parfind.specs.Surveying.{SurveyState, Surveyed}
use Rattle.parfind.specs.Surveys.{is_settled}
use Rattle.parfind.specs.Tracks.{cursor_of_track}
use Rattle.parfind.proofs.place_laws.UnfitPlaceLaws.{fits_more, seen_fits}
use Rattle.parfind.proofs.survey_laws.NoteSeenLaws.{count_was}
use Rattle.parfind.proofs.survey_laws.NotedLaws.{was_none}
use Rattle.parfind.proofs.survey_laws.PartLaws.{count_whole, finds_whole, missing_part, none_whole}
use Rattle.parfind.proofs.place_laws.CursorOrderLaws.{From, From-refl}
use Rattle.parfind.proofs.search_laws.PassUnfitLaws.{cursor_on, on_unseen, From-on}
use Rattle.parfind.proofs.place_laws.PlaceLaws.{sighting_seen}
use Rattle.parfind.proofs.place_laws.RisingLaws.{none_between}
use Rattle.parfind.proofs.place_laws.SeenLaws.{fit_seen, seen_inside}
use Rattle.parfind.proofs.survey_laws.SurveyedLaws.{surveyed_on, surveyed_here}
use Rattle.parfind.proofs.survey_laws.NearLaws.{others_unread, tied_near}

module _ (short : ShortState) (sought : Sought) (old now : SurveyState) (reads : ReadsOnly old.shelf now.shelf) where
  -- the set of the slices that were missing at the beginning
  abbrev missing_then : SliceSet
  missing_then = missing_set sought.set old.found

  -- the same for the set whose short slices are expected
  abbrev all_then : SliceSet
  all_then = missing_set short.set old.found

  same_lengths : now.shelf.lengths ≡ old.shelf.lengths
  same_lengths = ap (λ (s : ShelfState). s.lengths) reads.counts

  -- as long as a slice isn't settled
  module _ (m : ℕ) (there : is_strict short ≡ true → m < length old.found) (unsettled : is_strict short ≡ true → is_settled sought.set now.found m ≡ false) (left : ℕ) where
    -- after a read of the window's file, what is true of the survey is still true
    pub swept_read : (c : Cursor) → Surveyed short sought old now c → (next : SurveyState) → next.found ≡ now.found → Older now.shelf next.shelf → IsTied next.shelf next.window next.track
        → next.window ≡ record now.window { content = next.window.content } → now.window.capacity ≡ sought.set.slice_size
        → next.track.file ≡ c.file → next.track.window_offset ≤ c.offset → next.track.file ≡ now.track.file
        → ReadsUpTo now.shelf next.shelf (fetched_of now.track) (fetched_of next.track)
        → set_has_fit all_then left ≡ true → left ≤ slice_index old.shelf.lengths now.track.file → Surveyed short sought old next c
    swept_read c so_far next same older tied window sized file held stays hands fits room =
        let hands' = rw same_lengths at hands in
        let capacity : next.window.capacity ≡ now.window.capacity = ap (λ (w : WindowState). w.capacity) window in
        surveyed_on short sought old now c so_far next c same (From-refl c) older (λ files _ n _. refl) m there unsettled hands'
        (others_unread all_then old.shelf.lengths now.shelf.handed next.shelf.handed (fetched_of now.track) (fetched_of next.track) left (sym stays) hands' fits room)
        (λ _. tied_near next.shelf next.window next.track sought.set.slice_size c tied (capacity ∙ sized) file held)
        (ap (λ (w : WindowState). w.digests) window) capacity

    -- past places whose windows don't have the CRC-32 of a slice that is still looked for
    pub swept_pass : (part : SliceSet) → IsPart sought.set now.found part → (n : ℕ) → 0 < n → Surveyed short sought old now (cursor_on (cursor_of_track now.track) 1) → (next : SurveyState) → next.found ≡ now.found
        → Older now.shelf next.shelf → IsTied next.shelf next.window next.track → next.window ≡ record now.window { content = next.window.content }
        → now.window.capacity ≡ sought.set.slice_size → next.track.file ≡ now.track.file → next.track.window_offset ≡ now.track.window_offset + n
        → ReadsUpTo now.shelf next.shelf (fetched_of now.track) (fetched_of next.track)
        → ((files : List (List ℕ)) → ReadsAs next.shelf files → HaveNoComparedCrc (sought_of part sought.mode) (file_of files now.track.file) now.track.window_offset n)
        → set_has_fit all_then left ≡ true → left ≤ slice_index old.shelf.lengths now.track.file → Surveyed short sought old next (cursor_of_track next.track)
    swept_pass part is n some so_far next same older tied window sized stays held hands none fits room =
        let hands' = rw same_lengths at hands in
        let capacity : next.window.capacity ≡ now.window.capacity = ap (λ (w : WindowState). w.capacity) window in
        let c : Cursor = cursor_of_track now.track in
        let d : Cursor = cursor_on c n in
        let at : d ≡ cursor_of_track next.track =
        ap (λ (f : ℕ). record { file = f; offset = c.offset + n; slice = 0 }) (sym stays)
        ∙ ap (λ (o : ℕ). record { file = next.track.file; offset = o; slice = 0 }) (sym held) in
        subst (Surveyed short sought old next) at
        (surveyed_on short sought old now (cursor_on c 1) so_far next d same (From-on c 1 n some) older
        (λ files reads_as. none_whole sought.set now.found part is sought.mode files (cursor_on c 1) d (From-on c 1 n some)
        (on_unseen (scan_of (sought_of part sought.mode) files) c n some (none files reads_as)))
        m there unsettled hands'
        (others_unread all_then old.shelf.lengths now.shelf.handed next.shelf.handed (fetched_of now.track) (fetched_of next.track) left (sym stays) hands' fits room)
        (λ _. tied_near next.shelf next.window next.track sought.set.slice_size d tied (capacity ∙ sized) stays (omega (arith, held)))
        (ap (λ (w : WindowState). w.digests) window) capacity)

    -- to the next file, if no slice that was missing at the beginning fits into what is left of
    -- this one
    module _ (room : now.track.window_offset + left ≡ slice_index old.shelf.lengths now.track.file)
        (each : length old.found ≡ length sought.set.slices) (full : set_has_fit missing_then left ≡ false) where
      unfit_here : (files : List (List ℕ)) → ReadsAs now.shelf files → (o n : ℕ) → now.track.window_offset ≤ o
          → is_slice_seen (sought_of missing_then sought.mode) (file_of files now.track.file) o n ≡ true → ⊥
      unfit_here files reads_as o n later seen =
          let file : List ℕ = file_of files now.track.file in
          let whole : length file ≡ slice_index old.shelf.lengths now.track.file =
          length-file_of old.shelf files now.track.file (reads.older files reads_as) in
          let inside : o < length file = seen_inside (sought_of missing_then sought.mode) file o n seen in
          let fits : set_has_fit missing_then left ≡ true =
          fits_more missing_then (length file - o) left (omega arith) (seen_fits (sought_of missing_then sought.mode) file o n seen) in
          let both : true ≡ false = sym fits ∙ full in cc

      none_there : (files : List (List ℕ)) → ReadsAs now.shelf files → (d : Cursor) → d.file ≡ now.track.file + 1 → d.offset ≡ 0 → d.slice ≡ 0
          → sightings_between (scan_of (sought_of missing_then sought.mode) files) (cursor_of_track now.track) d ≡ []
      none_there files reads_as d next first least =
          let c : Cursor = cursor_of_track now.track in
          let s : Scan = scan_of (sought_of missing_then sought.mode) files in
          none_between cursor_of c d (sightings_of s) (λ y has from. elim (cases_eq now.track.file y.file) [
            | inl e ↦
                let seen : is_slice_seen s.sought (file_of files y.file) y.offset y.slice ≡ true = sighting_seen s y has in
                absurd (unfit_here files reads_as y.offset y.slice (from.by_offset e)
                (subst (λ (f : ℕ). is_slice_seen s.sought (file_of files f) y.offset y.slice ≡ true) (sym e) seen))
            | inr other ↦ record {
              by_file = omega (arith, next, from.by_file);
              by_offset = λ _. omega (arith, first);
              by_slice = λ _ _. omega (arith, least);
            }
          ])

      pub swept_enter : Surveyed short sought old now (cursor_of_track now.track) → (next : SurveyState) → next.found ≡ now.found → next.shelf ≡ now.shelf
          → IsUnread (now.track.file + 1) 0 next.track → next.window ≡ record now.window { content = [] } → Surveyed short sought old next (cursor_of_track next.track)
      swept_enter so_far next same still unread window =
          let c : Cursor = cursor_of_track now.track in
          let d : Cursor = cursor_of_track next.track in
          let handed : next.shelf.handed ≡ now.shelf.handed = ap (λ (s : ShelfState). s.handed) still in
          let still_reads : Older now.shelf next.shelf = λ files reads_as. subst (λ (s : ShelfState). ReadsAs s files) still reads_as in
          let on : From c d = record {
            by_file = omega (arith, unread.file_is);
            by_offset = λ e. absurd (omega (arith, unread.file_is));
            by_slice = λ e _. absurd (omega (arith, unread.file_is));
          } in
          surveyed_on short sought old now c so_far next d same on still_reads
          (λ files reads_as n open_. none_whole sought.set old.found missing_then (missing_part sought.set old.found each) sought.mode files c d on
          (none_there files (still_reads files reads_as) d unread.file_is unread.offset_is refl) n
          (was_none old.found now.found n (so_far.kept n) open_))
          m there unsettled
          (rw handed (hands_enter old.shelf.lengths now.shelf.handed (fetched_of now.track) (fetched_of next.track) (omega (arith, unread.file_is))))
          (λ f none. omega (arith, ap (λ (xs : List ℕ). slice_index xs f) handed))
          (λ _. record {
            file_is = omega arith;
            offset_is = λ _. omega (arith, unread.buffer_offset_is, unread.buffer_len_is);
          })
          (ap (λ (w : WindowState). w.digests) window) (ap (λ (w : WindowState). w.capacity) window)

  -- past the place of a full window, after the slices that are seen there were noted
  module _ (tied : IsTied now.shelf now.window now.track) (sized : now.window.capacity ≡ sought.set.slice_size)
      (full : length now.window.content ≡ now.window.capacity) (so_far : Surveyed short sought old now (cursor_of_track now.track))
      (counted : now.track.file < length old.shelf.lengths) (left : ℕ) (some : 0 < left)
      (room : now.track.window_offset + left ≡ slice_index old.shelf.lengths now.track.file) where
    whole_there : (files : List (List ℕ)) → ReadsAs now.shelf files
        → now.window.content ≡ window_at sought.set.slice_size (file_of files now.track.file) now.track.window_offset
    whole_there files reads_as =
        whole_window (file_of files now.track.file) sought.set.slice_size now.track.window_offset now.window.content (full ∙ sized)
        (tied.content files reads_as)

    whole_length : (files : List (List ℕ)) → ReadsAs now.shelf files
        → length (file_of files now.track.file) ≡ slice_index old.shelf.lengths now.track.file
    whole_length files reads_as = length-file_of old.shelf files now.track.file (reads.older files reads_as)

    pub swept_here : (part : SliceSet) → IsPart sought.set now.found part → (next : SurveyState) → next.shelf ≡ now.shelf → next.track ≡ now.track
        → FindsMore (slice_passes part.slices (is_fitting_compared sought.mode now.window.content left)) now.found next.found
        → next.window.capacity ≡ now.window.capacity
        → (is_strict short ≡ true → TakesDigests (count_missing (sought_of part sought.mode) now.found now.window.content left) now.window next.window)
        → Surveyed short sought old next (cursor_on (cursor_of_track now.track) 1)
    swept_here part is next still track marks capacity takes =
        surveyed_here short sought old now (cursor_of_track now.track) so_far refl same_lengths counted (omega arith) next still track
        (slice_passes sought.set.slices (is_fitting_compared sought.mode now.window.content left))
        (count_missing (sought_of part sought.mode) now.found now.window.content left)
        (λ files reads_as n.
        let file : List ℕ = file_of files now.track.file in
        let whole = whole_length files reads_as in
        fit_seen sought file now.track.window_offset left now.window.content (omega arith) (omega arith) (whole_there files reads_as) n)
        (λ files reads_as.
        let file : List ℕ = file_of files now.track.file in
        let whole = whole_length files reads_as in
        let rest : left ≡ length file - now.track.window_offset = omega (arith, room) in
        let count : ℕ = count_missing (sought_of part sought.mode) now.found now.window.content left in
        let fewer : count ≤ count_missing sought old.found now.window.content left = omega (
          arith,
          count_whole sought.set now.found part is sought.mode now.window.content left,
          count_was sought old.found now.found now.window.content left so_far.kept,
        ) in
        let there : count ≤ count_missing sought old.found (window_at sought.set.slice_size file now.track.window_offset) left =
        subst (λ (content : List ℕ). count ≤ count_missing sought old.found content left) (whole_there files reads_as) fewer in
        subst (λ (n : ℕ). count ≤ count_missing sought old.found (window_at sought.set.slice_size file now.track.window_offset) n) rest there)
        (finds_whole sought.set now.found part is (is_fitting_compared sought.mode now.window.content left) next.found marks) capacity takes

-- the way that is left is shorter after the window slid on or went to the next file, so the loop
-- ends
module _ (files file offset : ℕ) (there : file < files) (small : offset < 9223372036854775808) where
  pub slid_nearer : (files' file' offset' n : ℕ) → files' ≡ files → file' ≡ file → offset' ≡ offset + n → 0 < n
      → (files' - file') * 9223372036854775808 - offset' < (files - file) * 9223372036854775808 - offset
  slid_nearer files' file' offset' n lengths same on some = rw (lengths, same, on) (omega arith)

  pub entered_nearer : (file' offset' : ℕ) → file' ≡ file + 1 → offset' ≡ 0
      → (files - file') * 9223372036854775808 - offset' < (files - file) * 9223372036854775808 - offset
  entered_nearer file' offset' next first = rw (next, first) (omega arith)

-- the window keeps its capacity and its tails
pub kept_capacity : (u v w : WindowState) → v ≡ record u { content = v.content; digests = v.digests } → w.capacity ≡ v.capacity
    → w.tails ≡ v.tails → w ≡ record u { content = w.content; digests = w.digests }
kept_capacity u v w before same tails =
    ap (λ (n : ℕ). record w { capacity = n }) (same ∙ ap (λ (x : WindowState). x.capacity) before)
    ∙ ap (λ (ns : List ℕ). record w { capacity = u.capacity; tails = ns }) (tails ∙ ap (λ (x : WindowState). x.tails) before)

-- so it stays made for what is searched for
pub made_same : (sought : Sought) (u v : WindowState) → v.capacity ≡ u.capacity → v.tails ≡ u.tails → IsWindowFor sought u → IsWindowFor sought v
made_same sought u v capacity tails made =
    record { sized = capacity ∙ made.sized; tails_are = λ mode. tails ∙ made.tails_are mode; few = made.few }

module _ (short : ShortState) (sought : Sought) (old now : SurveyState) (reads : ReadsOnly old.shelf now.shelf)
    (m : ℕ) (there : is_strict short ≡ true → m < length old.found) (unsettled : is_strict short ≡ true → is_settled sought.set now.found m ≡ false)
    (left fit : ℕ) (fits : set_has_fit (missing_set short.set old.found) fit ≡ true) (within : fit ≤ slice_index old.shelf.lengths now.track.file)
    (room : now.track.window_offset + left ≡ slice_index old.shelf.lengths now.track.file) (sized : now.window.capacity ≡ sought.set.slice_size)
    (so_far : Surveyed short sought old now (cursor_of_track now.track)) (next : SurveyState) (found : next.found ≡ now.found)
    (older : Older now.shelf next.shelf) (tied : IsTied next.shelf next.window next.track) (window : next.window ≡ record now.window { content = next.window.content })
    (same : SameTrack now.track next.track)
    (hands : ReadsUpTo now.shelf next.shelf (fetched_of now.track) (fetched_of next.track)) where
  -- the window is filled
  pub swept_fill : Surveyed short sought old next (cursor_of_track next.track)
  swept_fill =
      let at : cursor_of_track now.track ≡ cursor_of_track next.track =
      ap (λ (f : ℕ). record { file = f; offset = now.track.window_offset; slice = 0 }) (sym same.file_is)
      ∙ ap (λ (o : ℕ). record { file = next.track.file; offset = o; slice = 0 }) (sym same.offset_is) in
      subst (Surveyed short sought old next) at
      (swept_read short sought old now reads m there unsettled fit (cursor_of_track now.track) so_far next found older tied window sized
      same.file_is (omega (arith, same.offset_is)) same.file_is hands fits within)

  -- the slices that are seen in it are noted as found
  pub swept_look : ReadsOnly now.shelf next.shelf → length next.window.content ≡ next.window.capacity → now.track.file < length old.shelf.lengths
      → 0 < left → (part : SliceSet) → IsPart sought.set next.found part → (last : SurveyState) → last.shelf ≡ next.shelf → last.track ≡ next.track
      → FindsMore (slice_passes part.slices (is_fitting_compared sought.mode next.window.content left)) next.found last.found
      → last.window.capacity ≡ next.window.capacity
      → (is_strict short ≡ true → TakesDigests (count_missing (sought_of part sought.mode) next.found next.window.content left) next.window last.window)
      → Surveyed short sought old last (cursor_on (cursor_of_track next.track) 1)
  swept_look only full counted some part is last still track marks capacity takes =
      swept_here short sought old next (ReadsOnly_more old.shelf now.shelf next.shelf reads only) tied
      (ap (λ (w : WindowState). w.capacity) window ∙ sized) full swept_fill (omega (arith, same.file_is)) left some
      (rw (same.file_is, same.offset_is) room) part is last still track marks capacity takes
