-- The lines of the sightings that a search has returned so far.
use Rattle.std.proofs.Common.{◌≡◌, ◌≢◌, ℕ, ◌+◌, ◌-◌, ◌≤◌, List, [], ◌∷◌, ◌++◌, length, All, Option, None, Some, slice_get, refl, sym, ap, ◌∙◌, subst, arith, append_assoc, append-nil, length-append, IsTrue, true, Result, Err}
use Rattle.std.specs.List.{flat_map}
use Rattle.std.proofs.lemmas.Grind.{flat_map-append}
use Rattle.std.proofs.lemmas.Option.{slice_get_past, none-some, same_Some}
use Rattle.parset.specs.RecoverySet.{SetView}
use Rattle.parreport.proofs.BlockLaws.{appended_twice}
use Rattle.parshelf.specs.Shelf.{ShelfState}
use Rattle.parshelf.specs.declared.shelves.reading.ReadFault.{ReadFault}
use Rattle.parshelf.specs.declared.shelves.reading.ReadFault.TheVariants.{Failed, Ended}
use Rattle.parwindow.specs.Index.{SliceSet, slice_set_of}
use Rattle.parfind.specs.Points.{SearchPoint, search_at}
use Rattle.parfind.specs.Steps.{StepGives, scan_of}
use Rattle.parfind.specs.Sought.{sought_of}
use Rattle.parfind.specs.declared.tracks.mode.Mode.{Mode}
use Rattle.parfind.specs.declared.searches.finder.Step.{Step}
use Rattle.parfind.specs.declared.cursors.cursor.Cursor.{Cursor}
use Rattle.parfind.specs.declared.cursors.sighting.Sighting.{Sighting}
use Rattle.parfind.specs.Order.{is_from, cursor_of, cursor_after}
use Rattle.parfind.specs.Sightings.{Scan, sightings_of, sightings_between}
use Rattle.parfind.proofs.place_laws.CursorOrderLaws.{From-by_test}
use Rattle.parfind.proofs.place_laws.ItemLaws.{Each-weaker, Each-passes, All-from}
use Rattle.parfind.proofs.place_laws.RisingLaws.{between_and_from}
use Rattle.parfind.proofs.place_laws.SightingLaws.{Rises-sightings_of}
use Rattle.parreport.specs.Findings.{set_scan_of}
use Rattle.parreport.specs.FindText.{Search, line_of_cursor, seen_from, found_line, limited, last_line, find_text, limit_left, WritesLinesBefore}
use Rattle.parreport.specs.Lines.{end_line}
use Rattle.parreport.proofs.LimitLaws.{CountsDown, limited-parts, limited-one, limited-nil, counted_one, below_limit, counted_none, last_line-end, last_line-cursor}
use Rattle.parreport.proofs.LineLaws.{RefusesFront_later}
use Rattle.parshelf.specs.SinkState.{SinkState, appended, WritesPrefix, FailsAfterPrefix}

-- the lines of all sightings up to the cursor of the search were written, and `left` lines of the
-- limit are left
pub record HandsOut (s : Search) (left : Option ℕ) (now : Cursor) (old new : SinkState) : Type 0 where
  pub handed : List Sighting
  pub whole : seen_from s s.at ≡ handed ++ seen_from s now
  pub counted : CountsDown s.limit left (length handed)
  pub stands_after : (x : Sighting) → slice_get handed (length handed - 1) ≡ Some x → now ≡ cursor_after x
  pub after : new ≡ appended old (flat_map (found_line s.names s.set) handed)

slice_get-last : (xs : List Sighting) (x : Sighting) → slice_get (xs ++ x ∷ []) (length xs) ≡ Some x
slice_get-last [] x = refl
slice_get-last (y ∷ xs) x = slice_get-last xs x

module _ (s : Search) where
  abbrev pub line : Sighting → List ℕ
  line x = found_line s.names s.set x

  abbrev pub from : Cursor → List Sighting
  from c = seen_from s c

  pub hands_none : (old : SinkState) → HandsOut s s.limit s.at old old
  hands_none old = record {
    handed = [];
    whole = refl;
    counted = counted_none s.limit;
    stands_after = λ x is. absurd (none-some x (sym (slice_get_past {X = Sighting} [] 0 (omega arith)) ∙ is));
    after = sym (ap (λ (ys : List ℕ). record old { bytes = ys }) (append-nil old.bytes));
  }

  module _ (left : Option ℕ) (now : Cursor) (old mid : SinkState) (h : HandsOut s left now old mid) where
    text_parts : find_text s
        ≡ flat_map line h.handed ++ (flat_map line (limited left (from now)) ++ last_line (line_of_cursor s) s.limit (from s.at))
    unfolding find_text
    text_parts =
        ap (λ (xs : List Sighting). flat_map line xs ++ last_line (line_of_cursor s) s.limit (from s.at))
        (ap (limited s.limit) h.whole ∙ limited-parts s.limit left h.handed (from now) h.counted)
        ∙ (ap (λ (ys : List ℕ). ys ++ last_line (line_of_cursor s) s.limit (from s.at)) (flat_map-append line h.handed (limited left (from now)))
        ∙ append_assoc (flat_map line h.handed) (flat_map line (limited left (from now))) (last_line (line_of_cursor s) s.limit (from s.at)))

    pub hands_front : WritesPrefix old mid (find_text s)
    hands_front = record {
      front = flat_map line h.handed;
      rest = flat_map line (limited left (from now)) ++ last_line (line_of_cursor s) s.limit (from s.at);
      whole = text_parts;
      after = h.after;
    }

    module _ (some : left ≢ Some 0) (x : Sighting) (d : Cursor) (first : from now ≡ x ∷ from d) where
      pub hands_one : (new : SinkState) → d ≡ cursor_after x → new ≡ appended mid (line x)
          → HandsOut s (limit_left left) d old new
      hands_one new stands after =
          let count : length (h.handed ++ x ∷ []) ≡ length h.handed + 1 = length-append h.handed (x ∷ []) in
          let place : length (h.handed ++ x ∷ []) - 1 ≡ length h.handed = omega (arith, count) in
          let lines : flat_map line (h.handed ++ x ∷ []) ≡ flat_map line h.handed ++ line x
          = flat_map-append line h.handed (x ∷ []) ∙ ap (λ (ys : List ℕ). flat_map line h.handed ++ ys) (append-nil (line x)) in
          record {
            handed = h.handed ++ x ∷ [];
            whole = h.whole ∙ (ap (λ (xs : List Sighting). h.handed ++ xs) first ∙ sym (append_assoc h.handed (x ∷ []) (from d)));
            counted = subst (λ (n : ℕ). CountsDown s.limit (limit_left left) n) (sym count) (counted_one s.limit left (length h.handed) h.counted some);
            stands_after = λ y is. stands ∙ ap cursor_after (same_Some x y (sym (slice_get-last h.handed x) ∙ (ap (slice_get (h.handed ++ x ∷ [])) (sym place) ∙ is)));
            after = appended_twice old mid new (flat_map line h.handed) (line x) h.after after ∙ ap (appended old) (sym lines);
          }

      pub hands_refused : (new : SinkState) → FailsAfterPrefix mid new (line x) → FailsAfterPrefix old new (find_text s)
      hands_refused new refuses =
          let others : List ℕ = flat_map line (limited (limit_left left) (from d)) in
          let last : List ℕ = last_line (line_of_cursor s) s.limit (from s.at) in
          let parts : flat_map line (limited left (from now)) ++ last ≡ line x ++ (others ++ last)
          = ap (λ (xs : List Sighting). flat_map line xs ++ last) (ap (limited left) first ∙ limited-one left x (from d) some)
          ∙ append_assoc (line x) others last in
          RefusesFront_later old mid new (flat_map line h.handed) (line x) (others ++ last) (find_text s) h.after
          (text_parts ∙ ap (λ (ys : List ℕ). flat_map line h.handed ++ ys) parts) refuses

    module _ (some : left ≢ Some 0) (none : from now ≡ []) where
      text_ends : find_text s ≡ flat_map line h.handed ++ end_line
      text_ends =
          text_parts ∙ ap (λ (ys : List ℕ). flat_map line h.handed ++ ys)
          (ap (λ (xs : List Sighting). flat_map line xs ++ last_line (line_of_cursor s) s.limit (from s.at)) (ap (limited left) none ∙ limited-nil left)
          ∙ (ap (last_line (line_of_cursor s) s.limit) (h.whole ∙ ap (λ (xs : List Sighting). h.handed ++ xs) none)
          ∙ last_line-end (line_of_cursor s) s.limit left h.handed h.counted some))

      pub ends_text : (new : SinkState) → new ≡ appended mid end_line → new ≡ appended old (find_text s)
      ends_text new after =
          appended_twice old mid new (flat_map line h.handed) end_line h.after after ∙ ap (appended old) (sym text_ends)

      pub ends_refused : (new : SinkState) → FailsAfterPrefix mid new end_line → FailsAfterPrefix old new (find_text s)
      ends_refused new refuses =
          RefusesFront_later old mid new (flat_map line h.handed) end_line [] (find_text s) h.after
          (text_ends ∙ ap (λ (ys : List ℕ). flat_map line h.handed ++ ys) (sym (append-nil end_line))) refuses

    -- if a search goes on and passes no sighting, the lines of all sightings before its cursor are
    -- written
    pub keeps_lines : left ≢ Some 0 → (d : Cursor) → IsTrue (is_from now d) → sightings_between (set_scan_of s.set s.mode s.contents) now d ≡ []
        → WritesLinesBefore s d.file old mid
    keeps_lines some d onward none =
        let scan : Scan = set_scan_of s.set s.mode s.contents in
        let same : from now ≡ from d
        = sym (between_and_from cursor_of now d (From-by_test now d onward) (sightings_of scan) (Rises-sightings_of scan))
        ∙ ap (λ (xs : List Sighting). xs ++ from d) none in
        let Test : Sighting → Type 0 = λ x. d.file ≤ x.file in
        let later = All-from Test (from d)
        (Each-weaker (λ x. is_from d (cursor_of x) ≡ true) Test (λ x k. (From-by_test d (cursor_of x) k).by_file) (from d)
        (Each-passes (λ x. is_from d (cursor_of x)) (sightings_of scan))) in
        record {
          handed = h.handed;
          others = from now;
          whole = h.whole;
          below_limit = below_limit s.limit left (length h.handed) h.counted some;
          later = subst (λ (xs : List Sighting). All Test xs) (sym same) later;
          after = h.after;
        }

  module _ (now : Cursor) (old mid : SinkState) (h : HandsOut s (Some 0) now old mid) (some : s.limit ≢ Some 0) where
    text_stops : find_text s ≡ flat_map line h.handed ++ line_of_cursor s now
    text_stops =
        text_parts (Some 0) now old mid h ∙ ap (λ (ys : List ℕ). flat_map line h.handed ++ ys)
        (ap (last_line (line_of_cursor s) s.limit) h.whole ∙ last_line-cursor (line_of_cursor s) s.limit h.handed (from now) now h.counted some h.stands_after)

    pub stops_text : (new : SinkState) → new ≡ appended mid (line_of_cursor s now) → new ≡ appended old (find_text s)
    stops_text new after =
        appended_twice old mid new (flat_map line h.handed) (line_of_cursor s now) h.after after ∙ ap (appended old) (sym text_stops)

    pub stops_refused : (new : SinkState) → FailsAfterPrefix mid new (line_of_cursor s now)
        → FailsAfterPrefix old new (find_text s)
    stops_refused new refuses =
        RefusesFront_later old mid new (flat_map line h.handed) (line_of_cursor s now) [] (find_text s) h.after
        (text_stops ∙ ap (λ (ys : List ℕ). flat_map line h.handed ++ ys) (sym (append-nil (line_of_cursor s now)))) refuses

-- the result of a step with the index of a set is one of the search for the slices of that set
pub gives_of_set : (set : SetView) (mode own : Mode) (index : SliceSet) (files : List (List ℕ)) (old new : SearchPoint) (answer : Result Step ReadFault)
    → index ≡ slice_set_of set.size set.slices → own ≡ mode
    → StepGives (scan_of (sought_of index own) files) None old answer new
    → StepGives (set_scan_of set mode files) None old answer new
gives_of_set set mode own index files old new answer is same gives =
    subst (λ (slices : SliceSet). StepGives (scan_of (sought_of slices mode) files) None old answer new) is
    (subst (λ (m : Mode). StepGives (scan_of (sought_of index m) files) None old answer new) same gives)

-- after a failed read, the lines of all sightings in files before the cursor's file are written
pub keeps_after_fault : (s : Search) (shelf after : ShelfState) (left : Option ℕ) (now d : Cursor) (old mid : SinkState) (why : ReadFault)
    → HandsOut s left now old mid → left ≢ Some 0
    → StepGives (set_scan_of s.set s.mode s.contents) None (search_at shelf now) (Err why) (search_at after d)
    → WritesLinesBefore s d.file old mid
keeps_after_fault s shelf after left now d old mid Failed h some gives = keeps_lines s left now old mid h some d gives.moves.onward gives.sees
keeps_after_fault s shelf after left now d old mid Ended h some gives = absurd gives.counts
