-- Places of a file at which no slice fits into what is left: none has a sighting, and a search
-- passes them without reading.
use Rattle.std.proofs.Common.{◌≡◌, ◌≢◌, ℕ, zero, suc, min, ◌+◌, ◌-◌, ◌<◌, ◌≤◌, Bool, true, List, [], ◌∷◌, length, refl, sym, ap, ◌∙◌, arith, slice_get, slice_index, nat_le, nat_lt, ◌==◌, ◌&&◌, false, Option, Some, None, Ok, IsTrue, inl, inr}
use Rattle.std.proofs.lemmas.Bool.{and_parts, cases_Bool, cases_eq, or_left, or_right, leb-true, le-leb}
use Rattle.std.specs.List.{list_any}
use Rattle.std.specs.Option.{option_map_or, unwrap_or}
use Rattle.std.specs.Str.{bytes_eq}
use Rattle.parshelf.specs.Shelf.{ShelfState, ReadsAs, file_of}
use Rattle.parshelf.proofs.ShelfLaws.{length-file_of}
use Rattle.parfield.specs.declared.hash16.Hash16.{Hash16}
use Rattle.parwindow.specs.Index.{SliceSet, sums_of, has_sums, has_fit_of, set_has_fit}
use Rattle.parwindow.specs.Window.{window_at}
use Rattle.parfind.specs.declared.cursors.cursor.Cursor.{Cursor}
use Rattle.parfind.proofs.place_laws.FittingLaws.{passing, passing_has}
use Rattle.parfind.specs.declared.searches.finder.Step.TheVariants.{Spent}
use Rattle.parfind.specs.declared.searches.finder.Visit.TheVariants.{Passed}
use Rattle.parfind.specs.Order.{cursor_of}
use Rattle.parfind.specs.Sightings.{Scan, content_of, is_seen, is_slice_seen, sightings_of, sightings_between}
use Rattle.parfind.specs.NextPlace.{HasFit, IsNextPlace, rest_of}
use Rattle.parfind.specs.Sought.{Sought, compared_window}
use Rattle.parfind.specs.Moves.{PassesAll, steps_left}
use Rattle.parfind.specs.Finders.{FinderState, BelongsTo}
use Rattle.parfind.specs.Steps.{scan_of}
use Rattle.parfind.proofs.place_laws.CursorOrderLaws.{From, From-by_test}
use Rattle.parfind.proofs.place_laws.RisingLaws.{none_between}
use Rattle.parfind.proofs.place_laws.PlaceLaws.{sighting_seen}
use Rattle.parfind.proofs.search_laws.PassUnfitLaws.{cursor_on, From-on, passes_some, next_place_moves, next_place_sees}
use Rattle.parfind.proofs.search_laws.AdvanceLaws.{fewer_past, no_more}

any_weaker : {A : Type 0} (p q : A → Bool) → ((x : A) → p x ≡ true → q x ≡ true) → (xs : List A)
    → list_any p xs ≡ true → list_any q xs ≡ true
any_weaker p q weaker [] h = cc
any_weaker p q weaker (x ∷ xs) h = elim (cases_Bool (p x)) [
  | inl e ↦ or_left (q x) (list_any q xs) (weaker x e)
  | inr e ↦ or_right (q x) (list_any q xs) (any_weaker p q weaker xs (rw e at h))
]

known_weaker : {A : Type 0} (p q : A → Bool) → ((x : A) → p x ≡ true → q x ≡ true) → (known : Option A)
    → option_map_or p known false ≡ true → option_map_or q known false ≡ true
known_weaker p q weaker None h = h
known_weaker p q weaker (Some x) h = weaker x h

-- if a slice fits into fewer bytes, one fits into more
pub fits_more : (set : SliceSet) (less more : ℕ) → less ≤ more → set_has_fit set less ≡ true → set_has_fit set more ≡ true
fits_more set less more up fits =
    any_weaker (has_fit_of less) (has_fit_of more)
    (λ slice. known_weaker (λ known. nat_le slice.length less) (λ known. nat_le slice.length more)
    (λ known h. let short : slice.length ≤ less = leb-true slice.length less h in le-leb slice.length more (omega arith))
    slice.sums) set.slices fits

-- if a slice is seen at an offset, a slice fits into what is left of the file
pub seen_fits : (sought : Sought) (file : List ℕ) (offset n : ℕ) → is_slice_seen sought file offset n ≡ true
    → set_has_fit sought.set (length file - offset) ≡ true
seen_fits sought file offset n seen =
    let slice = passing (is_seen sought.mode sought.set.slice_size file offset) (slice_get sought.set.slices n) seen in
    let sums : Hash16 × ℕ = sums_of (compared_window sought.mode (window_at sought.set.slice_size file offset) slice.0) in
    let ends : Bool = nat_le (offset + slice.0.length) (length file) in
    let known : Bool = has_sums sums slice.0 in
    let parts : (ends ≡ true) × (known ≡ true) = and_parts ends known (and_parts (nat_lt offset (length file)) (ends && known) slice.2).1 in
    let inside : offset + slice.0.length ≤ length file = leb-true (offset + slice.0.length) (length file) parts.0 in
    let fits : nat_le slice.0.length (length file - offset) ≡ true = le-leb slice.0.length (length file - offset) (omega arith) in
    passing_has (has_fit_of (length file - offset)) sought.set.slices n slice.0 slice.1
    (known_weaker (λ known. known.1 == sums.1 && bytes_eq known.0.0 sums.0.0) (λ known. nat_le slice.0.length (length file - offset))
    (λ known h. fits) slice.0.sums parts.1)

-- no sighting lies in a file from a place on at which no slice fits
pub on_unfit : (scan : Scan) (d : Cursor) (n : ℕ) → ¬ IsTrue (set_has_fit scan.sought.set (length (content_of scan d.file) - d.offset))
    → sightings_between scan d (cursor_on d n) ≡ []
on_unfit scan d n none =
    none_between cursor_of d (cursor_on d n) (sightings_of scan)
    (λ y has after. elim (cases_eq d.file y.file) [
      | inl f ↦
          let low : d.offset ≤ y.offset = after.by_offset f in
          let fits = seen_fits scan.sought (content_of scan y.file) y.offset y.slice (sighting_seen scan y has) in
          let rest : length (content_of scan y.file) - y.offset ≤ length (content_of scan d.file) - d.offset =
          omega (arith, low, ap (λ (k : ℕ). length (content_of scan k)) f) in
          absurd (none (fits_more scan.sought.set _ _ rest fits))
      | inr other ↦ record { by_file = after.by_file; by_offset = λ e. absurd (other e); by_slice = λ e _. absurd (other e) }
    ])

module _ (f : FinderState) (set : SliceSet) (s : ShelfState) (belongs : BelongsTo f set s) (d : Cursor)
    (next : IsNextPlace s.lengths f.cursor d) (none : ¬ HasFit set s.lengths d) where
  -- if a finder's cursor passes such places and its window stays, the finder still belongs to its
  -- set and shelf
  pub unfit_belongs : (n : ℕ) → BelongsTo (record f { cursor = cursor_on d n }) set s
  unfit_belongs n =
      let on : From f.cursor d = From-by_test f.cursor d next.onward in
      record {
        made = belongs.made;
        keeps = belongs.keeps;
        kept_there = belongs.kept_there;
        tied = belongs.tied;
        not_ahead = omega (arith, belongs.not_ahead, on.by_file);
        not_past = λ there.
            let file : f.cursor.file ≡ d.file = omega (arith, there, belongs.not_ahead, on.by_file) in
            omega (arith, on.by_offset file, belongs.not_past (there ∙ sym file));
        here = λ there fits. absurd (none (fits_more set (rest_of s.lengths (cursor_on d n)) (rest_of s.lengths d) (omega arith) fits));
        fetched_is = belongs.fetched_is;
        digests_are = belongs.digests_are;
        onward = belongs.onward;
        counted = belongs.counted;
      }

-- the cursor passes n places, of which the first is the next one
module _ (lengths : List ℕ) (c d : Cursor) (next : IsNextPlace lengths c d) (n : ℕ) (some : 0 < n) where
  pub unfit_passes : n ≤ rest_of lengths d → PassesAll lengths n c (cursor_on d n)
  unfit_passes within =
      next_place_moves lengths c d (cursor_on d n) next (Ok (Passed n))
      (passes_some lengths d n some next.counted (omega (arith, next.there)))

  pub unfit_advances : (set : SliceSet) → steps_left set lengths (cursor_on d n) < steps_left set lengths c
  unfit_advances set =
      omega (arith, fewer_past set lengths c d next, no_more set lengths (cursor_on d 1) (cursor_on d n) (From-on d 1 n some))

pub unfit_sees : (sought : Sought) (s : ShelfState) (files : List (List ℕ)) → ReadsAs s files → (c d : Cursor) → IsNextPlace s.lengths c d
    → ¬ HasFit sought.set s.lengths d → (n : ℕ) → 0 < n → sightings_between (scan_of sought files) c (cursor_on d n) ≡ []
unfit_sees sought s files reads c d next none n some =
    let whole : length (file_of files d.file) ≡ slice_index s.lengths d.file = length-file_of s files d.file reads in
    let unfit : ¬ IsTrue (set_has_fit sought.set (length (content_of (scan_of sought files) d.file) - d.offset)) = rw whole none in
    let on : From d (cursor_on d n) = record { by_file = omega arith; by_offset = λ _. omega arith; by_slice = λ _ e. absurd (omega arith) } in
    next_place_sees s.lengths c d (cursor_on d n) next sought files reads.lengths (Ok Spent) on (on_unfit (scan_of sought files) d n unfit)

-- a budget that isn't 0 allows to pass at least one of the places that are left
some_within : (left : Option ℕ) (rest most : ℕ) → left ≢ Some 0 → 0 < rest → 0 < most → 0 < min rest (unwrap_or left most)
some_within None rest most some ahead big = omega arith
some_within (Some zero) rest most some ahead big = absurd (some refl)
some_within (Some (suc k)) rest most some ahead big = omega arith

pub some_passed : (lengths : List ℕ) (d : Cursor) (left : Option ℕ) (rest most count : ℕ) → left ≢ Some 0
    → d.offset < slice_index lengths d.file → rest ≡ rest_of lengths d → most ≡ unwrap_or left 18446744073709551615
    → count ≡ min rest most → 0 < count
some_passed lengths d left rest most count some there ahead budget is =
    rw (is, budget) (some_within left rest 18446744073709551615 some (omega arith) (omega arith))
