-- The places and the sightings that there are, and the places from one cursor to another.
use Rattle.std.proofs.Common.{◌≡◌, ℕ, ◌<◌, true, List, [], ◌∷◌, length, refl, sym, ◌∙◌, arith, slice_index, IsTrue, inl, inr}
use Rattle.std.specs.List.{range_with_len}
use Rattle.std.proofs.lemmas.Bool.{cases_eq}
use Rattle.std.proofs.lemmas.List.{length-map}
use Rattle.std.proofs.Math.ListN.{get_or-map}
use Rattle.parwindow.specs.Index.{SliceSet}
use Rattle.parfind.specs.declared.cursors.cursor.Cursor.{Cursor}
use Rattle.parfind.specs.declared.cursors.sighting.Sighting.{Sighting}
use Rattle.parfind.specs.Order.{is_from, cursor_of}
use Rattle.parfind.specs.Fetched.{Place}
use Rattle.parfind.specs.Places.{place_at, cursor_at, cursor_past, place_of, place_start, places_of_file, places_of, places_ahead, places_between}
use Rattle.parfind.specs.Sightings.{Scan, content_of, is_sighting, triples_at, triples_of, sightings_of}
use Rattle.parfind.specs.Steps.{lengths_of}
use Rattle.parfind.specs.NextPlace.{IsAtPlace, IsNextPlace}
use Rattle.parfind.proofs.place_laws.CursorOrderLaws.{Before, From, is_from-true, From-by_test, From-refl}
use Rattle.parfind.proofs.place_laws.ItemLaws.{Each, Each-any, Each-has, Each-passes, Each-range, Each-map, Each-flat_map, Has, Has-map, Has-flat_map, Has-range, Has-filter}
use Rattle.parfind.proofs.place_laws.RisingLaws.{part_between, between_and_from, none_between, only_between}
use Rattle.parfind.proofs.place_laws.SightingLaws.{Rises-places_of}
use Rattle.parfind.proofs.place_laws.SeenLaws.{seen_inside}

-- the places that there are

pub place_at_place : (lengths : List ℕ) (p : Place) → Has (places_of lengths) p → p.offset < slice_index lengths p.file
unfolding places_of
place_at_place lengths p has =
    let Inside : Place → Type 0 = λ q. q.offset < slice_index lengths q.file in
    let files : List ℕ = range_with_len 0 (length lengths) in
    Each-has Inside (places_of lengths) p
    (Each-flat_map Inside (places_of_file lengths) files
    (Each-any (λ f. Each Inside (places_of_file lengths f))
    (λ f. Each-map Inside (λ o. record { file = f; offset = o }) (range_with_len 0 (slice_index lengths f))
    (Each-range (λ o. o < slice_index lengths f) 0 (slice_index lengths f) (λ o low high. omega arith)))
    files)) has

pub Has-places_of : (lengths : List ℕ) (f o : ℕ) → f < length lengths → o < slice_index lengths f
    → Has (places_of lengths) (record { file = f; offset = o })
unfolding places_of
Has-places_of lengths f o counted inside =
    Has-flat_map (places_of_file lengths) (range_with_len 0 (length lengths)) f (record { file = f; offset = o })
    (Has-range 0 (length lengths) f (omega arith) (omega arith))
    (Has-map (λ o'. record { file = f; offset = o' }) (range_with_len 0 (slice_index lengths f)) o
    (Has-range 0 (slice_index lengths f) o (omega arith) (omega arith)))

-- the sightings that there are

pub length-content_of : (scan : Scan) (f : ℕ) → slice_index (lengths_of scan) f ≡ length (content_of scan f)
length-content_of scan f = get_or-map length scan.contents f []

pub sighting_seen : (scan : Scan) (x : Sighting) → Has (sightings_of scan) x → is_sighting scan x ≡ true
unfolding sightings_of
sighting_seen scan x has =
    Each-has (λ y. is_sighting scan y ≡ true) (sightings_of scan) x
    (Each-passes (is_sighting scan) (triples_of scan.sought.set (lengths_of scan))) has

pub sighting_at_place : (scan : Scan) (x : Sighting) → Has (sightings_of scan) x → IsAtPlace (lengths_of scan) (cursor_of x)
sighting_at_place scan x has =
    rw (length-content_of scan x.file)
    (seen_inside scan.sought (content_of scan x.file) x.offset x.slice (sighting_seen scan x has))

pub Has-triples_of : (set : SliceSet) (lengths : List ℕ) (x : Sighting) → x.file < length lengths
    → x.offset < slice_index lengths x.file → x.slice < length set.slices → Has (triples_of set lengths) x
Has-triples_of set lengths x counted inside few =
    let at : ℕ → Sighting = λ n. record { file = x.file; offset = x.offset; slice = n } in
    Has-flat_map (triples_at set) (places_of lengths) (place_of x) x (Has-places_of lengths x.file x.offset counted inside)
    (Has-map at (range_with_len 0 (length set.slices)) x.slice
    (Has-range 0 (length set.slices) x.slice (omega arith) (omega arith)))

pub Has-sightings_of : (scan : Scan) (x : Sighting) → x.file < length scan.contents → x.slice < length scan.sought.set.slices
    → is_sighting scan x ≡ true → Has (sightings_of scan) x
unfolding sightings_of
Has-sightings_of scan x counted few seen =
    let inside : x.offset < slice_index (lengths_of scan) x.file =
    rw (length-content_of scan x.file) (seen_inside scan.sought (content_of scan x.file) x.offset x.slice seen) in
    let counted' : x.file < length (lengths_of scan) = rw (length-map scan.contents length) counted in
    Has-filter (is_sighting scan) (triples_of scan.sought.set (lengths_of scan)) x
    (Has-triples_of scan.sought.set (lengths_of scan) x counted' inside few) seen

-- the places from one cursor to another

pub From-start : (c d : Cursor) → From c d → From (place_start c) (place_start d)
From-start c d on = record { by_file = on.by_file; by_offset = on.by_offset; by_slice = λ _ _. omega arith }

pub From-past : (d : Cursor) → From d (cursor_past (place_at d))
From-past d = record { by_file = omega arith; by_offset = λ _. omega arith; by_slice = λ _ e. absurd (omega arith) }

-- a place that isn't before the start of a cursor's offset isn't before the cursor, if it gets the
-- cursor's slice
pub ahead_of_start : (c : Cursor) (p : Place) → From (place_start c) (cursor_at p) → From c (record { file = p.file; offset = p.offset; slice = c.slice })
ahead_of_start c p on = record { by_file = on.by_file; by_offset = on.by_offset; by_slice = λ _ _. omega arith }

-- no place lies between a cursor and the next place
pub next_over : (lengths : List ℕ) (c d : Cursor) → IsNextPlace lengths c d → places_between lengths c d ≡ []
next_over lengths c d next =
    none_between cursor_at (place_start c) (place_start d) (places_of lengths)
    (λ p has after.
    let at : Cursor = record { file = p.file; offset = p.offset; slice = c.slice } in
    let ahead : IsTrue (is_from c at) = is_from-true c at (ahead_of_start c p after) in
    let found : From d at = From-by_test d at (next.least at ahead (place_at_place lengths p has)) in
    record { by_file = found.by_file; by_offset = found.by_offset; by_slice = λ _ _. omega arith })

-- of two cursors in one file with the same slice, the later one has the greater offset
later_offset : (a b : Cursor) → Before a b → a.file ≡ b.file → b.slice ≡ a.slice → a.offset < b.offset
later_offset a b before same slices = elim (cases_eq a.offset b.offset) [
  | inl e ↦ let lt = before.by_slice same e in absurd (omega arith)
  | inr ne ↦ omega (arith, before.by_offset same)
]

pub Before-past : (p : Place) → Before (cursor_at p) (cursor_past p)
Before-past p = record { by_file = omega arith; by_offset = λ _. omega arith; by_slice = λ _ e. absurd (omega arith) }

-- the cursor just after a place isn't after any later place
pub From-past_place : (p q : Place) → Before (cursor_at p) (cursor_at q) → From (cursor_past p) (cursor_at q)
From-past_place p q after = record {
  by_file = after.by_file;
  by_offset = λ same. let lt = later_offset (cursor_at p) (cursor_at q) after same refl in omega arith;
  by_slice = λ _ _. omega arith;
}

-- a place is the only one from its start to the cursor just after it
pub only_here : (lengths : List ℕ) (d : Cursor) → d.file < length lengths → IsAtPlace lengths d
    → part_between cursor_at (place_start d) (cursor_past (place_at d)) (places_of lengths) ≡ place_at d ∷ []
only_here lengths d counted there =
    only_between cursor_at (place_start d) (cursor_past (place_at d)) (place_at d) (places_of lengths) (Rises-places_of lengths)
    (Has-places_of lengths d.file d.offset counted there) (From-refl (place_start d))
    (Before-past (place_at d)) (λ q after. From-past_place (place_at d) q after)
    (λ q before. before)

-- the places ahead of a cursor are the next place and those ahead of the cursor just after it
pub next_ahead : (lengths : List ℕ) (c d : Cursor) → IsNextPlace lengths c d
    → places_ahead lengths c ≡ place_at d ∷ places_ahead lengths (cursor_past (place_at d))
next_ahead lengths c d next =
    let past : Cursor = cursor_past (place_at d) in
    let on : From (place_start c) (place_start d) = From-start c d (From-by_test c d next.onward) in
    let over : From (place_start d) past = From-past (place_start d) in
    sym (between_and_from cursor_at (place_start c) (place_start d) on (places_of lengths) (Rises-places_of lengths))
    ∙ (rw (next_over lengths c d next)
    (sym (between_and_from cursor_at (place_start d) past over (places_of lengths) (Rises-places_of lengths))
    ∙ (rw (only_here lengths d next.counted next.there) refl)))
