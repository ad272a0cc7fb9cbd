-- The turns of a survey's loop: it enters the next file, or fills its window, notes the slices that
-- are seen there, and slides on.
use Rattle.std.proofs.Common.{◌≡◌, ℕ, ◌+◌, ◌<◌, ◌≤◌, Bool, true, false, List, [], length, replicate, refl, sym, ap, ◌∙◌, arith, Option, None, Ok, Err, inl, inr, slice_index}
use Rattle.std.proofs.lemmas.Bool.{cases_lt, or_cases, or_left, or_right}
use Rattle.parfind.specs.Expecting.{ShortState, is_strict}
use Rattle.parshelf.specs.Shelf.{ShelfState, ReadsAs, file_of}
use Rattle.parshelf.specs.Reads.{ReadsOnly}
use Rattle.parshelf.specs.declared.shelves.reading.ReadFault.{ReadFault}
use Rattle.parshelf.proofs.ReadLaws.{ReadsOnly_more}
use Rattle.parwindow.specs.Index.{SliceSet, set_has_fit}
use Rattle.parwindow.specs.Missing.{found_at, missing_set}
use Rattle.parwindow.specs.Window.{WindowState}
use Rattle.parfind.specs.Noting.{AreExhausted}
use Rattle.parfind.specs.Smaller.{IsPart}
use Rattle.parfind.specs.Sought.{Sought, sought_of}
use Rattle.parfind.specs.NextPlace.{rest_of}
use Rattle.parfind.specs.Surveying.{SurveyState, Surveyed, SurveyEnds, survey_at}
use Rattle.parfind.specs.declared.tracks.track.Track.{Track}
use Rattle.parfind.specs.Surveys.{AreAllSettled, is_settled, lacks_sums}
use Rattle.parfind.specs.Tracks.{IsUnread, HaveNoComparedCrc, Passes, cursor_of_track}
use Rattle.parfind.proofs.search_laws.MoveWindowLaws.{unread_tied}
use Rattle.parfind.proofs.survey_laws.ExhaustedLaws.{exhausted_none, exhausted_on}
use Rattle.parfind.proofs.search_laws.PassUnfitLaws.{cursor_on}
use Rattle.parfind.proofs.survey_laws.PartLaws.{part_kept}
use Rattle.parfind.proofs.survey_laws.SurveyStates.{ComparedAt, Missing, ReadOn, SlidOn}
use Rattle.parfind.proofs.survey_laws.SurveyedSoFarLaws.{SurveySoFar, never_all}
use Rattle.parfind.proofs.survey_laws.SurveyGoesOnLaws.{swept_enter, swept_fill, swept_look, swept_pass, swept_read, kept_capacity}

module _ (short : ShortState) (sought : Sought) (part : SliceSet) (old now : SurveyState) (missing : ℕ) (exhausted : List (Option ℕ)) (left : ℕ)
    (at : Missing short sought part old now missing exhausted left) where
  there : is_strict short ≡ true → missing < length old.found
  there is = omega (arith, at.open_is is, at.each)

  unsettled : is_strict short ≡ true → is_settled sought.set now.found missing ≡ false
  unsettled is = let so_far = at.so_far in so_far.first (at.open_is is)

  pub room : now.track.window_offset + left ≡ slice_index old.shelf.lengths now.track.file
  room =
      let so_far = at.so_far in
      omega (arith, at.left_is, so_far.inside at.counted, ap (λ (u : ShelfState). slice_index u.lengths now.track.file) so_far.reads.counts)

  pub sized : now.window.capacity ≡ sought.set.slice_size
  sized = let so_far = at.so_far in so_far.surveyed.capacity ∙ at.capacity_is

  -- if a strict survey goes on, not every slice was settled at the beginning
  some_missing : is_strict short ≡ true → AreAllSettled sought.set old.found → ⊥
  some_missing is = never_all short sought part old now missing exhausted at.so_far (at.open_is is) at.each

  -- if no slice that was missing at the beginning fits, the next file is entered
  pub enters : set_has_fit (missing_set sought.set old.found) left ≡ false → (w : WindowState) (t : Track) → IsUnread (now.track.file + 1) 0 t
      → w ≡ record now.window { content = [] } → SurveySoFar short sought part old (survey_at now.shelf w now.found t) missing (replicate 257 None)
  enters full w t unread window =
      let so_far = at.so_far in
      record {
        part_is = so_far.part_is;
        made = so_far.made;
        reads = so_far.reads;
        tied = unread_tied now.shelf now.window w (now.track.file + 1) 0 t (omega arith) so_far.tied.few unread window;
        inside = λ _. omega (arith, unread.offset_is);
        within = so_far.within;
        first = so_far.first;
        settled = so_far.settled;
        exhausted_is = exhausted_none (sought_of part sought.mode) now.found (rest_of now.shelf.lengths (cursor_of_track t)) 257;
        none = so_far.none;
        window_is = kept_capacity old.window now.window w so_far.window_is (ap (λ (x : WindowState). x.capacity) window)
            (ap (λ (x : WindowState). x.tails) window);
        surveyed = swept_enter short sought old now so_far.reads missing there unsettled left room at.each_slice full so_far.surveyed
            (survey_at now.shelf w now.found t) refl refl unread window;
      }

  -- the window is filled
  module _ (fit : ℕ) (fits : set_has_fit (missing_set short.set old.found) fit ≡ true)
      (within : fit ≤ slice_index old.shelf.lengths now.track.file) (filled : SurveyState) (fill : ReadOn now filled) where
    pub fill_fails : (fault : ReadFault) → SurveyEnds short sought old filled (Err fault)
    fill_fails fault =
        let so_far = at.so_far in
        record {
          cursor = cursor_of_track filled.track;
          surveyed = swept_fill short sought old now so_far.reads missing there unsettled left fit fits within room sized so_far.surveyed filled fill.found_is
              fill.older fill.tied fill.window_is fill.same fill.hands;
          first = refl;
          file_is = refl;
          none = λ is all. absurd (some_missing is all);
          all = tt;
        }

    -- the slices that are seen in it are noted as found
    module _ (only : ReadsOnly now.shelf filled.shelf) (w : WindowState) (more : List Bool) (last : ℕ)
        (look : ComparedAt short sought part filled left w more missing last) where
      abbrev seen : SurveyState
      seen = survey_at filled.shelf w more filled.track

      filled_part : IsPart sought.set filled.found part
      filled_part = let so_far = at.so_far in rw fill.found_is so_far.part_is

      more_part : IsPart sought.set more part
      more_part =
          let so_far = at.so_far in
          part_kept sought.set now.found more part (λ n had. look.found n ∙ or_left _ _ (ap (λ xs. found_at xs n) fill.found_is ∙ had)) so_far.part_is

      looked : Surveyed short sought old seen (cursor_on (cursor_of_track filled.track) 1)
      looked =
          let so_far = at.so_far in
          swept_look short sought old now so_far.reads missing there unsettled left fit fits within room sized so_far.surveyed filled fill.found_is
          fill.older fill.tied fill.window_is fill.same fill.hands only look.full
          (omega (arith, at.counted, ap (λ (u : ShelfState). length u.lengths) so_far.reads.counts)) look.some
          part filled_part seen refl refl look.found (ap (λ (x : WindowState). x.capacity) look.window_is) look.takes

      all_read : ReadsOnly old.shelf filled.shelf
      all_read = let so_far = at.so_far in ReadsOnly_more old.shelf now.shelf filled.shelf so_far.reads only

      all_settled : (n : ℕ) → n < last → is_settled sought.set more n ≡ true
      all_settled n less = elim (cases_lt n missing) [
        | inl early ↦
            let so_far = at.so_far in
            elim (or_cases (found_at now.found n) (lacks_sums sought.set n) (so_far.settled n early)) [
              | inl marked ↦ or_left (found_at more n) (lacks_sums sought.set n)
                  (look.found n ∙ or_left _ _ (ap (λ xs. found_at xs n) fill.found_is ∙ marked))
              | inr unknown ↦ or_right (found_at more n) (lacks_sums sought.set n) unknown
            ]
        | inr late ↦ let next = look.next in next.settled n late less
      ]

      capacity : w.capacity ≡ now.window.capacity
      capacity = ap (λ (x : WindowState). x.capacity) look.window_is ∙ ap (λ (x : WindowState). x.capacity) fill.window_is

      tails : w.tails ≡ now.window.tails
      tails = ap (λ (x : WindowState). x.tails) look.window_is ∙ ap (λ (x : WindowState). x.tails) fill.window_is

      pub look_ends : length more ≤ last → SurveyEnds short sought old seen (Ok tt)
      look_ends over = record {
        cursor = cursor_on (cursor_of_track filled.track) 1;
        surveyed = looked;
        first = refl;
        file_is = refl;
        none = λ is all. absurd (some_missing is all);
        all = inl (λ n less. all_settled n (omega arith));
      }

      -- the window slides on
      module _ (some : is_strict short ≡ true → last < length more) (t : ShelfState) (v : WindowState) (a : Track) (slid : SlidOn filled w t v a) where
        abbrev on : SurveyState
        on = survey_at t v more a

        still_there : is_strict short ≡ true → last < length old.found
        still_there is = omega (arith, some is, look.each, ap length fill.found_is, at.each)

        still_unsettled : is_strict short ≡ true → is_settled sought.set more last ≡ false
        still_unsettled is = let next = look.next in next.first (some is)

        within_file : fit ≤ slice_index old.shelf.lengths filled.track.file
        within_file = let same = fill.same in omega (arith, within, ap (λ (f : ℕ). slice_index old.shelf.lengths f) same.file_is)

        pub slide_fails : (fault : ReadFault) → a.window_offset ≡ filled.track.window_offset → SurveyEnds short sought old on (Err fault)
        slide_fails fault stays = record {
          cursor = cursor_on (cursor_of_track filled.track) 1;
          surveyed = swept_read short sought old seen all_read last still_there still_unsettled fit
              (cursor_on (cursor_of_track filled.track) 1) looked on refl slid.older slid.tied slid.window_is (capacity ∙ sized) slid.file_is
              (omega (arith, stays)) slid.file_is slid.hands fits within_file;
          first = refl;
          file_is = sym slid.file_is;
          none = λ is all. absurd (some_missing is all);
          all = tt;
        }

        module _ (n most : ℕ) (passes : Passes (slice_index filled.shelf.lengths filled.track.file) filled.track a most n)
            (only_on : ReadsOnly filled.shelf t) where
          less_left : rest_of t.lengths (cursor_of_track a) ≤ left
          less_left = let same = fill.same in omega (
            arith,
            room,
            passes.offset_is,
            same.offset_is,
            ap (λ (f : ℕ). slice_index t.lengths f) slid.file_is,
            ap (λ (u : ShelfState). slice_index u.lengths filled.track.file) only_on.counts,
            ap (λ (u : ShelfState). slice_index u.lengths filled.track.file) all_read.counts,
            ap (λ (f : ℕ). slice_index old.shelf.lengths f) same.file_is,
          )

          pub slides : (crcs : List (Option ℕ)) → AreExhausted (sought_of part sought.mode) more left crcs
              → ((files : List (List ℕ)) → ReadsAs t files
              → HaveNoComparedCrc (sought_of part sought.mode) (file_of files filled.track.file) filled.track.window_offset n)
              → SurveySoFar short sought part old on last crcs
          slides crcs exhausted_is none =
              let so_far = at.so_far in
              let next = look.next in
              record {
                part_is = more_part;
                made = so_far.made;
                reads = ReadsOnly_more old.shelf filled.shelf t all_read only_on;
                tied = slid.tied;
                inside = λ _. omega (
                  arith,
                  passes.inside,
                  passes.offset_is,
                  ap (λ (u : ShelfState). slice_index u.lengths filled.track.file) only_on.counts,
                  ap (λ (f : ℕ). slice_index t.lengths f) slid.file_is,
                );
                within = next.within;
                first = next.first;
                settled = all_settled;
                exhausted_is = exhausted_on (sought_of part sought.mode) left crcs more (rest_of t.lengths (cursor_of_track a)) less_left exhausted_is;
                none = λ is all. absurd (some_missing is all);
                window_is = kept_capacity old.window now.window v so_far.window_is
                    (ap (λ (x : WindowState). x.capacity) slid.window_is ∙ capacity)
                    (ap (λ (x : WindowState). x.tails) slid.window_is ∙ tails);
                surveyed = swept_pass short sought old seen all_read last still_there still_unsettled fit part more_part n passes.some looked on refl
                    slid.older slid.tied slid.window_is (capacity ∙ sized) slid.file_is passes.offset_is slid.hands none fits within_file;
              }
