-- A search comes nearer to its end, whatever the reads return.
use Rattle.std.proofs.Common.{◌≡◌, ℕ, ◌+◌, ◌<◌, ◌≤◌, List, [], ◌∷◌, length, ap, arith, length-append}
use Rattle.parwindow.specs.Index.{SliceSet}
use Rattle.parfind.specs.declared.cursors.cursor.Cursor.{Cursor}
use Rattle.parfind.specs.declared.cursors.sighting.Sighting.{Sighting}
use Rattle.parfind.specs.Order.{is_before, is_from, cursor_of, cursor_after}
use Rattle.parfind.specs.Places.{cursor_at, cursor_past, place_start, places_of, place_at}
use Rattle.parfind.specs.Sightings.{triples_of}
use Rattle.parfind.specs.Moves.{steps_left}
use Rattle.parfind.specs.NextPlace.{IsNextPlace}
use Rattle.parfind.proofs.place_laws.CursorOrderLaws.{Before, From, is_before-true, is_from-true, From-by_test, From-trans, From-before, Before-after}
use Rattle.parfind.proofs.place_laws.ItemLaws.{Has, Has-filter}
use Rattle.parfind.proofs.place_laws.RisingLaws.{Rises, part_from, part_between, between_and_from}
use Rattle.parfind.proofs.place_laws.SightingLaws.{Rises-places_of, Rises-triples_of}
use Rattle.parfind.proofs.place_laws.PlaceLaws.{Has-triples_of, From-start, From-past, next_ahead}

some_from_has : {A : Type 0} (xs : List A) (x : A) → Has xs x → 0 < length xs
some_from_has [] x has = absurd has
some_from_has (y ∷ xs) x has = omega arith

-- the elements from one cursor on are those between it and a later cursor, and those from the later
-- one on
module _ {A : Type 0} (key : A → Cursor) (c d : Cursor) (on : From c d) (xs : List A) (rises : Rises key xs) where
  parts : length (part_between key c d xs) + length (part_from key d xs) ≡ length (part_from key c xs)
  parts = omega (arith, ap length (between_and_from key c d on xs rises), length-append (part_between key c d xs) (part_from key d xs))

  fewer : (x : A) → Has xs x → From c (key x) → Before (key x) d → length (part_from key d xs) < length (part_from key c xs)
  fewer x has from before =
      let here : Has (part_between key c d xs) x =
      Has-filter (λ y. is_before (key y) d) (part_from key c xs) x
      (Has-filter (λ y. is_from c (key y)) xs x has (is_from-true c (key x) from)) (is_before-true (key x) d before) in
      omega (arith, parts, some_from_has (part_between key c d xs) x here)

-- a later cursor has no more steps left
pub no_more : (set : SliceSet) (lengths : List ℕ) (c d : Cursor) → From c d → steps_left set lengths d ≤ steps_left set lengths c
no_more set lengths c d on =
    omega (
      arith,
      parts cursor_of c d on (triples_of set lengths) (Rises-triples_of set lengths),
      parts cursor_at (place_start c) (place_start d) (From-start c d on) (places_of lengths) (Rises-places_of lengths),
    )

module _ (set : SliceSet) (lengths : List ℕ) (c d : Cursor) (next : IsNextPlace lengths c d) where
  -- past the next place, fewer steps are left
  pub fewer_past : steps_left set lengths (cursor_past (place_at d)) < steps_left set lengths c
  fewer_past =
      let past : Cursor = cursor_past (place_at d) in
      let on : From c past = From-trans c d past (From-by_test c d next.onward) (From-past d) in
      omega (arith, parts cursor_of c past on (triples_of set lengths) (Rises-triples_of set lengths), ap length (next_ahead lengths c d next))

  -- after a slice at the next place, fewer steps are left
  pub fewer_after : (n : ℕ) → d.slice ≤ n → n < length set.slices
      → let x : Sighting = record { file = d.file; offset = d.offset; slice = n } in
      steps_left set lengths (cursor_after x) < steps_left set lengths c
  fewer_after n low few =
      let x : Sighting = record { file = d.file; offset = d.offset; slice = n } in
      let to : From d (cursor_of x) = record { by_file = omega arith; by_offset = λ _. omega arith; by_slice = λ _ _. low } in
      let from : From c (cursor_of x) = From-trans c d (cursor_of x) (From-by_test c d next.onward) to in
      let over : From (cursor_of x) (cursor_after x) = From-before (cursor_of x) (cursor_after x) (Before-after x) in
      let on : From c (cursor_after x) = From-trans c (cursor_of x) (cursor_after x) from over in
      let there : Has (triples_of set lengths) x = Has-triples_of set lengths x next.counted next.there few in
      omega (
        arith,
        fewer cursor_of c (cursor_after x) on (triples_of set lengths) (Rises-triples_of set lengths) x there from (Before-after x),
        parts cursor_at (place_start c) (place_start (cursor_after x)) (From-start c (cursor_after x) on) (places_of lengths) (Rises-places_of lengths),
      )
