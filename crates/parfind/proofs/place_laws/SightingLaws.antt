-- The order of places and of sightings is strictly rising; and the laws of sightings follow.
use Rattle.std.proofs.Common.{◌≡◌, ℕ, ◌<◌, true, List, ◌∷◌, map, length, subst, arith, slice_index, IsTrue}
use Rattle.std.specs.List.{range_with_len}
use Rattle.parwindow.specs.Index.{SliceSet}
use Rattle.parfind.specs.declared.cursors.sighting.Sighting.{Sighting}
use Rattle.parfind.specs.Order.{is_before, is_from, origin, cursor_of, cursor_after}
use Rattle.parfind.specs.Fetched.{Place}
use Rattle.parfind.specs.Places.{cursor_at, places_of_file, places_of}
use Rattle.parfind.specs.Sightings.{Scan, is_sighting, triples_at, triples_of, sightings_of, SightingsRise, AllFromOrigin, RestFollows, BetweenJoins}
use Rattle.parfind.proofs.place_laws.CursorOrderLaws.{Before, is_before-true, is_from-true, From-by_test, From-trans, From-before, From-after, Before-after}
use Rattle.parfind.proofs.place_laws.ItemLaws.{Each, Each-any, Each-passes, Each-map, Pairs, Pairs-weaker, Pairs-filter, Pairs-map, Pairs-flat_map, Pairs-range, AllPairs-from, filter_all}
use Rattle.parfind.proofs.place_laws.RisingLaws.{Rises, between_and_between, from_head}

-- the places of all files rise: those of each file do, and those of an earlier file are before them
pub Rises-places_of : (lengths : List ℕ) → Rises cursor_at (places_of lengths)
unfolding places_of
Rises-places_of lengths =
    let S : Place → Place → Type 0 = λ p q. Before (cursor_at p) (cursor_at q) in
    let at : ℕ → ℕ → Place = λ f o. record { file = f; offset = o } in
    let offsets : ℕ → List ℕ = λ f. range_with_len 0 (slice_index lengths f) in
    Pairs-flat_map (λ (f g : ℕ). f < g) S (places_of_file lengths)
    (λ f. Pairs-map (λ (o o' : ℕ). o < o') S (at f)
    (λ o o' h. record { by_file = omega arith; by_offset = λ _. omega arith; by_slice = λ _ e. omega arith })
    (offsets f) (Pairs-range 0 (slice_index lengths f)))
    (λ f g h. Each-map (λ p. Each (S p) (places_of_file lengths g)) (at f) (offsets f)
    (Each-any (λ o. Each (S (at f o)) (places_of_file lengths g))
    (λ o. Each-map (S (at f o)) (at g) (offsets g)
    (Each-any (λ o'. S (at f o) (at g o'))
    (λ o'. record { by_file = omega arith; by_offset = λ e. omega arith; by_slice = λ e _. omega arith }) (offsets g)))
    (offsets f)))
    (range_with_len 0 (length lengths)) (Pairs-range 0 (length lengths))

pub Rises-triples_of : (set : SliceSet) (lengths : List ℕ) → Rises cursor_of (triples_of set lengths)
Rises-triples_of set lengths =
    let S : Sighting → Sighting → Type 0 = λ x y. Before (cursor_of x) (cursor_of y) in
    let at : Place → ℕ → Sighting = λ p n. record { file = p.file; offset = p.offset; slice = n } in
    let numbers : List ℕ = range_with_len 0 (length set.slices) in
    Pairs-flat_map (λ (p q : Place). Before (cursor_at p) (cursor_at q)) S (triples_at set)
    (λ p. Pairs-map (λ (n m : ℕ). n < m) S (at p)
    (λ n m h. record { by_file = omega arith; by_offset = λ _. omega arith; by_slice = λ _ _. omega arith })
    numbers (Pairs-range 0 (length set.slices)))
    (λ p q h. Each-map (λ x. Each (S x) (triples_at set q)) (at p) numbers
    (Each-any (λ n. Each (S (at p n)) (triples_at set q))
    (λ n. Each-map (S (at p n)) (at q) numbers
    (Each-any (λ m. S (at p n) (at q m))
    (λ m. record { by_file = h.by_file; by_offset = h.by_offset; by_slice = λ e e'. absurd (omega (arith, h.by_slice e e')) }) numbers))
    numbers))
    (places_of lengths) (Rises-places_of lengths)

pub Rises-sightings_of : (scan : Scan) → Rises cursor_of (sightings_of scan)
unfolding sightings_of
Rises-sightings_of scan =
    Pairs-filter (λ x y. Before (cursor_of x) (cursor_of y)) (is_sighting scan)
    (triples_of scan.sought.set (map length scan.contents)) (Rises-triples_of scan.sought.set (map length scan.contents))

pub sightings_rise : SightingsRise
sightings_rise scan =
    let Test : Sighting → Sighting → Type 0 = λ x y. IsTrue (is_before (cursor_of x) (cursor_of y)) in
    let tests : Pairs Test (sightings_of scan) =
    Pairs-weaker (λ x y. Before (cursor_of x) (cursor_of y)) Test
    (λ x y h. is_before-true (cursor_of x) (cursor_of y) h) (sightings_of scan) (Rises-sightings_of scan) in
    AllPairs-from Test (sightings_of scan) tests

pub all_from_origin : AllFromOrigin
all_from_origin scan =
    filter_all (λ x. is_from origin (cursor_of x)) (sightings_of scan)
    (Each-any (λ x. is_from origin (cursor_of x) ≡ true)
    (λ x. is_from-true origin (cursor_of x) (record { by_file = omega arith; by_offset = λ _. omega arith; by_slice = λ _ _. omega arith }))
    (sightings_of scan))

pub rest_follows : RestFollows
rest_follows scan c x xs begins =
    let each : Each (λ y. is_from c (cursor_of y) ≡ true) (x ∷ xs) =
    subst (λ ys. Each (λ y. is_from c (cursor_of y) ≡ true) ys) begins
    (Each-passes (λ y. is_from c (cursor_of y)) (sightings_of scan)) in
    from_head cursor_of c (cursor_after x) x (sightings_of scan) xs (Rises-sightings_of scan) begins
    (From-trans c (cursor_of x) (cursor_after x) (From-by_test c (cursor_of x) each.0)
    (From-before (cursor_of x) (cursor_after x) (Before-after x)))
    (Before-after x) (λ y h. From-after x (cursor_of y) h)

pub between_joins : BetweenJoins
between_joins scan a b c on on' =
    between_and_between cursor_of a b c (From-by_test a b on) (From-by_test b c on') (sightings_of scan) (Rises-sightings_of scan)
