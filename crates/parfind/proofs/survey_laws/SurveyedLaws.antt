-- A survey that is at a cursor: the facts of `Surveyed` hold at the beginning, and stay true as it
-- goes on.
use Rattle.std.proofs.Common.{◌≡◌, ℕ, ◌+◌, ◌<◌, ◌≤◌, Bool, true, false, ◌||◌, List, length, refl, sym, ap, ◌∙◌, subst, arith, inl, inr, slice_index}
use Rattle.std.proofs.lemmas.Bool.{cases_Bool, cases_eq, cases_lt, or_cases, or_left, or_parts, or_right, false_from_ne_true}
use Rattle.std.proofs.lemmas.List.{length-map}
use Rattle.std.proofs.Math.Bool.{or-false, or_assoc}
use Rattle.parfind.specs.Expecting.{ShortState, is_strict}
use Rattle.parshelf.specs.Shelf.{ShelfState, ReadsAs, Older, file_of}
use Rattle.parwindow.specs.Index.{set_has_fit}
use Rattle.parwindow.specs.Window.{WindowState}
use Rattle.parfind.specs.declared.cursors.cursor.Cursor.{Cursor}
use Rattle.parfind.specs.Fetched.{Place, upto, HandsUpTo}
use Rattle.parfind.specs.Tracks.{IsUnread, fetched_of}
use Rattle.parfind.proofs.track_laws.FetchedLaws.{upto-before, upto-here, upto-after, upto-most, upto-rises, hands_none, hands_more}
use Rattle.parfind.specs.NextPlace.{IsAtPlace}
use Rattle.parfind.specs.Noting.{FindsMore, TakesDigests}
use Rattle.parfind.specs.Marks.{missing_at, missing_count}
use Rattle.parfind.specs.Sought.{Sought}
use Rattle.parfind.specs.Order.{origin}
use Rattle.parfind.specs.Places.{cursor_at, cursor_past, place_at}
use Rattle.parfind.specs.OnePass.{IsNear}
use Rattle.parfind.specs.Sightings.{Scan, is_slice_seen}
use Rattle.parfind.specs.Steps.{scan_of, lengths_of}
use Rattle.parfind.specs.Handover.{HandsEachOnce, HandsAround}
use Rattle.parfind.specs.Surveys.{is_sighted, is_sighted_before, lacks_sums, is_settled, AreAllSettled, FindsSighted, FindsNoOther, FindsUpToFault, KeepsFound, StopsOnceFound, survey_point}
use Rattle.parwindow.specs.Missing.{found_at, missing_set}
use Rattle.parfind.specs.Surveying.{SurveyState, Surveyed, missing_between}
use Rattle.parfind.specs.Tracks.{cursor_of_track}
use Rattle.parfind.proofs.place_laws.CrcMatchLaws.{counted_rises, counted_more, counted_most}
use Rattle.parfind.proofs.place_laws.CursorOrderLaws.{From}
use Rattle.parfind.proofs.survey_laws.NearLaws.{near_further}
use Rattle.parfind.proofs.survey_laws.SettledLaws.{unknown_unseen}
use Rattle.parfind.proofs.survey_laws.SightedLaws.{sighted_on, here_more, none_first, before_sighted, all_before, still_missing}

-- the place at which a survey begins
abbrev pub start : Place
start = record { file = 0; offset = 0 }

-- they hold at the beginning

near_first : (size : ℕ) (q : Place) (c : Cursor) → q ≡ start → IsNear size q c
near_first size q c first = record {
  file_is = omega (arith, ap (λ (p : Place). p.file) first);
  offset_is = λ _. omega (arith, ap (λ (p : Place). p.offset) first);
}

surveyed_first : (short : ShortState) (sought : Sought) (now : SurveyState) → fetched_of now.track ≡ start → Surveyed short sought now now origin
surveyed_first short sought now fetched = record {
  found = λ files _ n. sym (ap (λ b. found_at now.found n || b) (none_first (scan_of sought files) n) ∙ or-false (found_at now.found n));
  kept = λ n marked. marked;
  hands = subst (HandsUpTo now.shelf.lengths now.shelf.handed now.shelf.handed start) (sym fetched) (hands_none now.shelf.lengths now.shelf.handed start);
  unfit = λ f none. omega arith;
  near = λ _. near_first sought.set.slice_size (fetched_of now.track) origin fetched;
  stops = λ _ _ _ p _. near_first sought.set.slice_size (fetched_of now.track) (cursor_at p) fetched;
  digests = λ _ _ _. omega arith;
  capacity = refl;
}

pub surveyed_none : (short : ShortState) (sought : Sought) (now : SurveyState) → IsUnread 0 0 now.track → Surveyed short sought now now (cursor_of_track now.track)
surveyed_none short sought now unread =
    let fetched : fetched_of now.track ≡ start =
    ap (λ (f : ℕ). record { file = f; offset = now.track.buffer_offset + now.track.buffer_len }) unread.file_is
    ∙ ap (λ (o : ℕ). record { file = 0; offset = o }) (omega (arith, unread.buffer_offset_is, unread.buffer_len_is)) in
    let at : cursor_of_track now.track ≡ origin =
    ap (λ (f : ℕ). record { file = f; offset = now.track.window_offset; slice = 0 }) unread.file_is
    ∙ ap (λ (o : ℕ). record { file = 0; offset = o; slice = 0 }) unread.offset_is in
    subst (Surveyed short sought now now) (sym at) (surveyed_first short sought now fetched)

from_origin : (c : Cursor) → From origin c
from_origin c = record { by_file = omega arith; by_offset = λ _. omega arith; by_slice = λ _ _. omega arith }

module _ (short : ShortState) (sought : Sought) (old now : SurveyState) (c : Cursor) (so_far : Surveyed short sought old now c) where
  -- a slice that isn't settled now wasn't settled at the beginning
  pub not_all : (m : ℕ) → m < length old.found → is_settled sought.set now.found m ≡ false → AreAllSettled sought.set old.found → ⊥
  not_all m there unsettled all =
      let parts = or_parts (found_at now.found m) (lacks_sums sought.set m) unsettled in
      elim (or_cases (found_at old.found m) (lacks_sums sought.set m) (all m there)) [
        | inl marked ↦ let both : true ≡ false = sym (so_far.kept m marked) ∙ parts.0 in cc
        | inr unknown ↦ let both : true ≡ false = sym unknown ∙ parts.1 in cc
      ]

  -- they stay true up to a later cursor, if no slice that isn't found has a sighting between the
  -- two cursors, as long as a slice isn't settled
  module _ (next : SurveyState) (d : Cursor) (same : next.found ≡ now.found) (on : From c d) (older : Older now.shelf next.shelf)
      (none : (files : List (List ℕ)) → ReadsAs next.shelf files → (n : ℕ) → found_at now.found n ≡ false
      → is_sighted_before (scan_of sought files) c n ≡ is_sighted_before (scan_of sought files) d n) where
    moved_found : (files : List (List ℕ)) → ReadsAs next.shelf files → (n : ℕ)
        → found_at next.found n ≡ (found_at old.found n || is_sighted_before (scan_of sought files) d n)
    moved_found files reads n =
        let s : Scan = scan_of sought files in
        let had : found_at now.found n ≡ (found_at old.found n || is_sighted_before s c n) = so_far.found files (older files reads) n in
        ap (λ marks. found_at marks n) same ∙ elim (cases_Bool (found_at now.found n)) [
          | inl is ↦ is ∙ sym (elim (or_cases (found_at old.found n) (is_sighted_before s c n) (sym had ∙ is)) [
            | inl before ↦ or_left (found_at old.found n) (is_sighted_before s d n) before
            | inr seen ↦ or_right (found_at old.found n) (is_sighted_before s d n) (sighted_on s c d on n seen)
          ])
          | inr open_ ↦ had ∙ ap (λ b. found_at old.found n || b) (none files reads n open_)
        ]

    pub surveyed_on : (m : ℕ) → (is_strict short ≡ true → m < length old.found) → (is_strict short ≡ true → is_settled sought.set now.found m ≡ false)
        → HandsUpTo old.shelf.lengths now.shelf.handed next.shelf.handed (fetched_of now.track) (fetched_of next.track)
        → ((f : ℕ) → set_has_fit (missing_set short.set old.found) (slice_index old.shelf.lengths f) ≡ false
        → slice_index next.shelf.handed f ≤ slice_index now.shelf.handed f)
        → (is_strict short ≡ true → IsNear sought.set.slice_size (fetched_of next.track) d) → next.window.digests ≡ now.window.digests
        → next.window.capacity ≡ now.window.capacity → Surveyed short sought old next d
    surveyed_on m there unsettled hands unfit near digests capacity = record {
      found = moved_found;
      kept = λ n marked. ap (λ marks. found_at marks n) same ∙ so_far.kept n marked;
      hands = hands_more old.shelf.lengths old.shelf.handed now.shelf.handed next.shelf.handed start (fetched_of now.track) (fetched_of next.track)
          so_far.hands hands;
      unfit = λ f none. omega (arith, so_far.unfit f none, unfit f none);
      near = near;
      stops = λ is files reads p all.
          let parts = or_parts (found_at now.found m) (lacks_sums sought.set m) (unsettled is) in
          let open_ = sym (moved_found files reads m) ∙ (ap (λ marks. found_at marks m) same ∙ parts.0) in
          let before = still_missing (scan_of sought files) old.found d m p (there is) parts.1 open_ all in
          near_further sought.set.slice_size (fetched_of next.track) d (cursor_at p) before.0 before.1 (near is);
      digests = λ is files reads. omega (
        arith,
        so_far.digests is files (older files reads),
        counted_rises (missing_at (scan_of sought files) old.found) (lengths_of (scan_of sought files)) origin c d (from_origin c) on,
      );
      capacity = capacity ∙ so_far.capacity;
    }

  -- they stay true past a place, after the slices that are seen there were noted
  module _ (first : c.slice ≡ 0) (lengths : now.shelf.lengths ≡ old.shelf.lengths) (counted : c.file < length old.shelf.lengths) (there : IsAtPlace old.shelf.lengths c)
      (next : SurveyState) (same : next.shelf ≡ now.shelf) (track : next.track ≡ now.track) (test : ℕ → Bool) (count : ℕ)
      (seen : (files : List (List ℕ)) → ReadsAs now.shelf files → (n : ℕ) → test n ≡ is_slice_seen sought (file_of files c.file) c.offset n)
      (most : (files : List (List ℕ)) → ReadsAs now.shelf files → count ≤ missing_at (scan_of sought files) old.found (place_at c))
      (marks : FindsMore test now.found next.found) (capacity : next.window.capacity ≡ now.window.capacity)
      (takes : is_strict short ≡ true → TakesDigests count now.window next.window) where
    still : (files : List (List ℕ)) → ReadsAs next.shelf files → ReadsAs now.shelf files
    still files reads = subst (λ (u : ShelfState). ReadsAs u files) same reads

    length_each : (files : List (List ℕ)) → ReadsAs now.shelf files → lengths_of (scan_of sought files) ≡ old.shelf.lengths
    length_each files reads = reads.lengths ∙ lengths

    digests_more : is_strict short ≡ true → (files : List (List ℕ)) → ReadsAs now.shelf files
        → next.window.digests ≤ old.window.digests + missing_between (scan_of sought files) old.found origin (cursor_past (place_at c))
    digests_more is files reads =
        let each = length_each files reads in
        let counts = counted_more (missing_at (scan_of sought files) old.found) (lengths_of (scan_of sought files)) origin c (from_origin c)
        (rw each counted) (rw each there) in
        let all : next.window.digests ≡ now.window.digests + count = ap (λ (x : WindowState). x.digests) (takes is) in
        omega (arith, so_far.digests is files reads, counts, most files reads)

    pub surveyed_here : Surveyed short sought old next (cursor_past (place_at c))
    surveyed_here = record {
      found = λ files reads_as n.
          let reads = still files reads_as in
          let s : Scan = scan_of sought files in
          let few : length (lengths_of s) ≡ length s.contents = length-map s.contents length in
          let counted' : c.file < length s.contents = omega (arith, counted, few, ap length (length_each files reads)) in
          marks n ∙ ap (λ b. b || test n) (so_far.found files reads n)
          ∙ or_assoc (found_at old.found n) (is_sighted_before s c n) (test n)
          ∙ ap (λ b. found_at old.found n || (is_sighted_before s c n || b)) (seen files reads n)
          ∙ ap (λ b. found_at old.found n || b) (here_more s c first counted' n);
      kept = λ n had. marks n ∙ or_left (found_at now.found n) (test n) (so_far.kept n had);
      hands = rw (same, track) so_far.hands;
      unfit = rw same so_far.unfit;
      near = λ is. rw track (near_further sought.set.slice_size (fetched_of now.track) c (cursor_past (place_at c)) (omega arith) (λ _. omega arith) (so_far.near is));
      stops = λ is files reads. rw track (so_far.stops is files (still files reads));
      digests = λ is files reads. digests_more is files (still files reads);
      capacity = capacity ∙ so_far.capacity;
    }

  -- the clauses of a survey, at its end

  pub surveyed_kept : KeepsFound old.found now.found
  surveyed_kept n there marked = so_far.kept n marked

  module _ (files : List (List ℕ)) (reads : ReadsAs now.shelf files) where
    abbrev scan : Scan
    scan = scan_of sought files

    pub surveyed_no_other : FindsNoOther scan old.found now.found
    surveyed_no_other n there marked =
        elim (or_cases (found_at old.found n) (is_sighted_before scan c n) (sym (so_far.found files reads n) ∙ marked)) [
          | inl before ↦ or_left (found_at old.found n) (is_sighted scan n) before
          | inr h ↦ or_right (found_at old.found n) (is_sighted scan n) (before_sighted scan c n h)
        ]

    pub surveyed_full : AreAllSettled sought.set now.found → FindsSighted scan old.found now.found
    surveyed_full all n there = elim (or_cases (found_at now.found n) (lacks_sums sought.set n) (all n there)) [
      | inl marked ↦ marked ∙ sym (surveyed_no_other n there marked)
      | inr unknown ↦
          let unseen : is_sighted scan n ≡ false = unknown_unseen scan n unknown in
          let not_yet : is_sighted_before scan c n ≡ false = false_from_ne_true _ (λ h.
          let both : true ≡ false = sym (before_sighted scan c n h) ∙ unseen in cc) in
          so_far.found files reads n ∙ ap (λ b. found_at old.found n || b) (not_yet ∙ sym unseen)
    ]

    pub surveyed_end : now.shelf.lengths ≡ old.shelf.lengths → length old.shelf.lengths ≤ c.file → FindsSighted scan old.found now.found
    surveyed_end lengths past n there =
        so_far.found files reads n ∙ ap (λ b. found_at old.found n || b) (all_before scan c (rw (reads.lengths ∙ lengths) past) n)

    pub surveyed_digests : is_strict short ≡ true → now.window.digests ≤ old.window.digests + missing_count scan old.found
    surveyed_digests is = omega (arith, so_far.digests is files reads, counted_most (missing_at scan old.found) (lengths_of scan) origin c)

  pub surveyed_once : HandsEachOnce old.shelf now.shelf
  surveyed_once f = omega (arith, so_far.hands.handed f, upto-most old.shelf.lengths (fetched_of now.track) f)

  around : (p : Place) → IsNear sought.set.slice_size (fetched_of now.track) (cursor_at p) → HandsAround sought.set.slice_size old.shelf now.shelf p
  around p near f =
      let q : Place = fetched_of now.track in
      let r : Place = record p { offset = p.offset + sought.set.slice_size + 4096 } in
      let less : upto old.shelf.lengths q f ≤ upto old.shelf.lengths r f = elim (cases_eq q.file p.file) [
        | inl same ↦ elim (cases_eq f p.file) [
          | inl here ↦ omega (arith, near.offset_is same, upto-here old.shelf.lengths q f (here ∙ sym same), upto-here old.shelf.lengths r f here)
          | inr other ↦ elim (cases_lt f p.file) [
            | inl before ↦ omega (arith, upto-before old.shelf.lengths r f before, upto-most old.shelf.lengths q f)
            | inr past ↦ omega (arith, upto-after old.shelf.lengths q f (omega arith))
          ]
        ]
        | inr other ↦ upto-rises old.shelf.lengths q r f (omega (arith, near.file_is))
      ] in
      omega (arith, so_far.hands.handed f, less)

  pub surveyed_stops : is_strict short ≡ true → (files : List (List ℕ)) → ReadsAs now.shelf files
      → StopsOnceFound (scan_of sought files) old.shelf now.shelf old.found
  surveyed_stops is files reads p all = around p (so_far.stops is files reads p all)

  pub surveyed_fault : is_strict short ≡ true → c.slice ≡ 0 → (file : ℕ) → c.file ≡ file → FindsUpToFault sought (survey_point old.shelf old.found) (survey_point now.shelf now.found) file
  surveyed_fault strictly first file is = record {
    place = place_at c;
    file_is = is;
    sighted = λ files reads n there. so_far.found files reads n
        ∙ ap (λ (k : ℕ). found_at old.found n || is_sighted_before (scan_of sought files) (record { file = c.file; offset = c.offset; slice = k }) n) first;
    around = let near = so_far.near strictly in around (place_at c) (record { file_is = near.file_is; offset_is = near.offset_is });
  }
