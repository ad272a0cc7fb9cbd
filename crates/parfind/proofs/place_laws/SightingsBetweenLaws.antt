-- The sightings from one cursor to another.
use Rattle.std.proofs.Common.{◌≡◌, ℕ, ◌<◌, true, false, List, [], ◌∷◌, length, refl, sym, ◌∙◌, arith, Some, None, Result, Ok, Err, inl, inr}
use Rattle.std.proofs.lemmas.Bool.{cases_eq, cases_lt, false_from_ne_true}
use Rattle.std.proofs.lemmas.List.{length-map}
use Rattle.parshelf.specs.declared.shelves.reading.ReadFault.{ReadFault}
use Rattle.parwindow.specs.Least.{IsLeastFrom}
use Rattle.parfind.specs.declared.cursors.cursor.Cursor.{Cursor}
use Rattle.parfind.specs.declared.cursors.sighting.Sighting.{Sighting}
use Rattle.parfind.specs.declared.searches.finder.Step.{Step}
use Rattle.parfind.specs.declared.searches.finder.Step.TheVariants.{Hit, Spent, Done}
use Rattle.parfind.specs.Order.{is_from, cursor_of, cursor_after}
use Rattle.parfind.specs.Places.{cursor_past, place_at}
use Rattle.parfind.specs.Sightings.{Scan, content_of, is_slice_seen, is_sighting, sightings_of, sightings_from, sightings_between}
use Rattle.parfind.specs.Steps.{lengths_of, StepSees}
use Rattle.parfind.specs.NextPlace.{IsNextPlace, NoPlaceFrom}
use Rattle.parfind.proofs.place_laws.CursorOrderLaws.{From, From-by_test, is_from-true, From-refl, From-before, From-after, Before-after}
use Rattle.parfind.proofs.place_laws.ItemLaws.{Each-from_has, filter_none}
use Rattle.parfind.proofs.place_laws.RisingLaws.{part_between, between_and_from, between_and_between, none_between, only_between}
use Rattle.parfind.proofs.place_laws.SightingLaws.{Rises-sightings_of}
use Rattle.parfind.proofs.place_laws.SeenLaws.{seen_there}
use Rattle.parfind.proofs.place_laws.PlaceLaws.{sighting_seen, sighting_at_place, Has-sightings_of, From-past}

pub none_seen : (scan : Scan) (c : Cursor) → sightings_between scan c c ≡ []
none_seen scan c = none_between cursor_of c c (sightings_of scan) (λ _ _ h. h)

-- if no sighting lies between cursors c and d, the sightings from c on are those from d on
module _ (scan : Scan) (c d : Cursor) (on : From c d) (none : sightings_between scan c d ≡ []) where
  pub same_left : sightings_from scan c ≡ sightings_from scan d
  same_left = sym (between_and_from cursor_of c d on (sightings_of scan) (Rises-sightings_of scan)) ∙ (rw none refl)

  same_between : (e : Cursor) → From d e → sightings_between scan c e ≡ sightings_between scan d e
  same_between e on' =
      sym (between_and_between cursor_of c d e on on' (sightings_of scan) (Rises-sightings_of scan)) ∙ (rw none refl)

  pub more_sees : (answer : Result Step ReadFault) (e : Cursor) → From d e → StepSees scan d answer e → StepSees scan c answer e
  more_sees (Ok (Hit x)) e on' sees = same_left ∙ sees
  more_sees (Ok Spent) e on' sees = same_between e on' ∙ sees
  more_sees (Ok Done) e on' sees = same_left ∙ sees
  more_sees (Err fault) e on' sees = same_between e on' ∙ sees

-- no sighting lies between a cursor and the next place
pub next_unseen : (scan : Scan) (c d : Cursor) → IsNextPlace (lengths_of scan) c d → sightings_between scan c d ≡ []
next_unseen scan c d next =
    none_between cursor_of c d (sightings_of scan)
    (λ y has after. From-by_test d (cursor_of y)
    (next.least (cursor_of y) (is_from-true c (cursor_of y) after) (sighting_at_place scan y has)))

-- if no place is left, no sighting is left
pub end_unseen : (scan : Scan) (c : Cursor) → NoPlaceFrom (lengths_of scan) c → sightings_from scan c ≡ []
end_unseen scan c none =
    filter_none (λ x. is_from c (cursor_of x)) (sightings_of scan)
    (Each-from_has (λ x. is_from c (cursor_of x) ≡ false) (sightings_of scan)
    (λ x has. false_from_ne_true _ (λ after. none (cursor_of x) after (sighting_at_place scan x has))))

-- if no slice is seen at cursor d, each sighting from d on is after its place
past_from : (scan : Scan) (d : Cursor) (y : Sighting) → IsLeastFrom (is_slice_seen scan.sought (content_of scan d.file) d.offset) d.slice None
    → is_sighting scan y ≡ true → From d (cursor_of y) → From (cursor_past (place_at d)) (cursor_of y)
past_from scan d y unseen seen after = elim (cases_eq d.file y.file) [
  | inl f ↦ elim (cases_eq d.offset y.offset) [
    | inl o ↦ absurd (unseen y.slice (after.by_slice f o) (rw (f, o) seen))
    | inr ne ↦ record {
      by_file = omega arith;
      by_offset = λ _. omega (arith, after.by_offset f);
      by_slice = λ _ _. omega arith;
    }
  ]
  | inr ne ↦ record { by_file = after.by_file; by_offset = λ e. absurd (ne e); by_slice = λ _ _. omega arith }
]

-- if no slice is seen at the next place, no sighting lies between a cursor and the end of that
-- place
pub past_unseen : (scan : Scan) (c d : Cursor) → IsNextPlace (lengths_of scan) c d
    → IsLeastFrom (is_slice_seen scan.sought (content_of scan d.file) d.offset) d.slice None
    → sightings_between scan c (cursor_past (place_at d)) ≡ []
past_unseen scan c d next unseen =
    let past : Cursor = cursor_past (place_at d) in
    let here : sightings_between scan d past ≡ [] =
    none_between cursor_of d past (sightings_of scan) (λ y has after. past_from scan d y unseen (sighting_seen scan y has) after) in
    same_between scan c d (From-by_test c d next.onward) (next_unseen scan c d next) past (From-past d) ∙ here

-- if n is the first slice that is seen at d, no sighting from d on is before it
first_at : (scan : Scan) (d : Cursor) (n : ℕ) (y : Sighting) → IsLeastFrom (is_slice_seen scan.sought (content_of scan d.file) d.offset) d.slice (Some n)
    → is_sighting scan y ≡ true → From d (cursor_of y) → From (record { file = d.file; offset = d.offset; slice = n }) (cursor_of y)
first_at scan d n y first seen after = record {
  by_file = after.by_file;
  by_offset = after.by_offset;
  by_slice = λ f o. elim (cases_lt y.slice n) [
    | inl lt ↦ absurd (first.least y.slice (after.by_slice f o) lt (rw (f, o) seen))
    | inr ge ↦ ge
  ];
}

-- the first slice that is seen at the next place is the next sighting
pub hit_seen : (scan : Scan) (c d : Cursor) (n : ℕ) → IsNextPlace (lengths_of scan) c d
    → IsLeastFrom (is_slice_seen scan.sought (content_of scan d.file) d.offset) d.slice (Some n)
    → let x : Sighting = record { file = d.file; offset = d.offset; slice = n } in
    sightings_from scan c ≡ x ∷ sightings_from scan (cursor_after x)
hit_seen scan c d n next first =
    let x : Sighting = record { file = d.file; offset = d.offset; slice = n } in
    let xs : List Sighting = sightings_of scan in
    let few : n < length scan.sought.set.slices = seen_there scan.sought (content_of scan d.file) d.offset n first.passes in
    let counted : d.file < length scan.contents = omega (arith, next.counted, length-map scan.contents length) in
    let on : From c d = From-by_test c d next.onward in
    let to : From d (cursor_of x) = record { by_file = omega arith; by_offset = λ _. omega arith; by_slice = λ _ _. first.at_or_above } in
    let over : From (cursor_of x) (cursor_after x) = From-before (cursor_of x) (cursor_after x) (Before-after x) in
    let none : sightings_between scan d (cursor_of x) ≡ [] =
    none_between cursor_of d (cursor_of x) xs (λ y has after. first_at scan d n y first (sighting_seen scan y has) after) in
    let only : part_between cursor_of (cursor_of x) (cursor_after x) xs ≡ x ∷ [] =
    only_between cursor_of (cursor_of x) (cursor_after x) x xs (Rises-sightings_of scan)
    (Has-sightings_of scan x counted few first.passes) (From-refl (cursor_of x)) (Before-after x)
    (λ y after. From-after x (cursor_of y) after) (λ y before. before) in
    let from_x : sightings_from scan (cursor_of x) ≡ x ∷ sightings_from scan (cursor_after x) =
    sym (between_and_from cursor_of (cursor_of x) (cursor_after x) over xs (Rises-sightings_of scan)) ∙ (rw only refl) in
    same_left scan c d on (next_unseen scan c d next) ∙ (same_left scan d (cursor_of x) to none ∙ from_x)
