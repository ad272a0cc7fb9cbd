-- The moves of a search, given the lengths of the files, one part of the way after another.
use Rattle.std.proofs.Common.{◌≡◌, ℕ, ◌+◌, ◌-◌, ◌<◌, ◌≤◌, List, [], ◌∷◌, ◌++◌, length, take, drop, refl, sym, ap, ◌∙◌, subst, arith, Option, Some, None, Result, Ok, Err, slice_get, slice_index, suc, false, true, ◌⊎◌, inl, inr, length-append}
use Rattle.std.specs.List.{Contains}
use Rattle.std.proofs.Math.Nat.{zero-add, suc-add}
use Rattle.std.proofs.Math.Seq.{take-append-add}
use Rattle.std.proofs.lemmas.Bool.{cases_Bool, cases_lt}
use Rattle.std.proofs.lemmas.Option.{slice_get_within}
use Rattle.std.proofs.lemmas.List.{get_or_past, length-take-le, take-append-drop, take-take}
use Rattle.std.proofs.lemmas.List.Elements.{Contains-append_left, Contains-append_right}
use Rattle.parshelf.specs.declared.shelves.reading.ReadFault.{ReadFault}
use Rattle.parfind.specs.declared.cursors.cursor.Cursor.{Cursor}
use Rattle.parfind.specs.declared.cursors.sighting.Sighting.{Sighting}
use Rattle.parfind.specs.Fetched.{Place}
use Rattle.parfind.specs.declared.searches.finder.Step.{Step}
use Rattle.parfind.specs.declared.searches.finder.Step.TheVariants.{Hit, Spent, Done}
use Rattle.parfind.specs.Order.{is_before, is_from, cursor_of, cursor_after}
use Rattle.parfind.specs.Places.{cursor_at, cursor_past, place_of, place_start, places_of, places_ahead, places_between}
use Rattle.parfind.specs.Moves.{covered, IsWithin, IsBelow, end_of, greater_of, HitsWithin, PassesAll, ComesToEnd, StaysWithin, StepMoves}
use Rattle.parfind.proofs.place_laws.CursorOrderLaws.{From, Before-by_test, From-by_test, is_before-true, is_before-false, is_from-true, From-refl, From-trans, From-before, Before-after}
use Rattle.parfind.proofs.place_laws.ItemLaws.{Each-from_has, Each-filter, Each-slice_get, Each-passes}
use Rattle.parfind.proofs.place_laws.RisingLaws.{Rises-part_from, between_and_from, between_and_between, none_between, before_nth}
use Rattle.parfind.proofs.place_laws.SightingLaws.{Rises-places_of}
use Rattle.parfind.proofs.place_laws.PlaceLaws.{place_at_place, From-start, Before-past, From-past_place}

-- the cursor after all files

pub greater-end : (lengths : List ℕ) (c : Cursor) → c.file < length lengths → greater_of c (end_of lengths) ≡ end_of lengths
greater-end lengths c within =
    let before : is_before c (end_of lengths) ≡ true = is_before-true c (end_of lengths)
    (record { by_file = omega arith; by_offset = λ e. absurd (omega arith); by_slice = λ e _. absurd (omega arith) }) in
    rw before refl

pub greater-same : (lengths : List ℕ) (c : Cursor) → length lengths ≤ c.file → greater_of c (end_of lengths) ≡ c
greater-same lengths c past =
    let not_before : is_before c (end_of lengths) ≡ false = is_before-false c (end_of lengths)
    (record { by_file = omega arith; by_offset = λ _. omega arith; by_slice = λ _ _. omega arith }) in
    rw not_before refl

pub From-greater : (c e : Cursor) → From c (greater_of c e)
From-greater c e = elim (cases_Bool (is_before c e)) [
  | inl before ↦
      let same : greater_of c e ≡ e = rw before refl in
      rw same (From-before c e (Before-by_test c e before))
  | inr not_before ↦
      let same : greater_of c e ≡ c = rw not_before refl in
      rw same (From-refl c)
]

-- a file that has a place exists
pub counted_of : (lengths : List ℕ) (f o : ℕ) → o < slice_index lengths f → f < length lengths
counted_of lengths f o inside = elim (cases_lt f (length lengths)) [
  | inl lt ↦ lt
  | inr past ↦ let none : slice_index lengths f ≡ 0 = get_or_past lengths f 0 past in absurd (omega arith)
]

-- the places from one cursor to another, and those from there on

module _ (lengths : List ℕ) (c d : Cursor) (on : From c d) where
  pub places_then_ahead : places_between lengths c d ++ places_ahead lengths d ≡ places_ahead lengths c
  places_then_ahead =
      between_and_from cursor_at (place_start c) (place_start d) (From-start c d on) (places_of lengths) (Rises-places_of lengths)

  pub places_then_between : (e : Cursor) → From d e → places_between lengths c d ++ places_between lengths d e ≡ places_between lengths c e
  places_then_between e on' =
      between_and_between cursor_at (place_start c) (place_start d) (place_start e) (From-start c d on) (From-start d e on')
      (places_of lengths) (Rises-places_of lengths)

-- the cursor d is reached from c after k places were passed
pub record PassedTo (lengths : List ℕ) (c d : Cursor) (k : ℕ) : Type 0 where
  pub onward : From c d
  pub count : length (places_between lengths c d) ≡ k
  pub stays : (d ≡ c) ⊎ (d.file < length lengths)

pub passed_none : (lengths : List ℕ) (c : Cursor) → PassedTo lengths c c 0
passed_none lengths c = record {
  onward = From-refl c;
  count = ap length (none_between cursor_at (place_start c) (place_start c) (places_of lengths) (λ _ _ h. h));
  stays = inl refl;
}

pub passed_more : (lengths : List ℕ) (c d e : Cursor) (k m : ℕ) → PassedTo lengths c d k → PassedTo lengths d e m → PassedTo lengths c e (k + m)
passed_more lengths c d e k m v w = record {
  onward = From-trans c d e v.onward w.onward;
  count =
      ap length (sym (places_then_between lengths c d v.onward e w.onward))
      ∙ (length-append (places_between lengths c d) (places_between lengths d e) ∙ (rw (v.count, w.count) refl));
  stays = elim w.stays [
    | inl same ↦ subst (λ (b : Cursor). (b ≡ c) ⊎ (b.file < length lengths)) (sym same) v.stays
    | inr there ↦ inr there
  ];
}

-- if a budget of n places is spent, exactly the first n places from the cursor on were passed
module _ (lengths : List ℕ) (n : ℕ) (c d : Cursor) (all : PassesAll lengths n c d) where
  ahead : List Place
  ahead = places_ahead lengths c

  counted : suc (n - 1) ≡ n
  counted = omega (arith, all.some)

  pub passes_onward : From c d
  unfolding ahead
  passes_onward =
      let start : From (place_start c) (cursor_at all.last) =
      From-by_test (place_start c) (cursor_at all.last)
      (Each-slice_get (λ q. is_from (place_start c) (cursor_at q) ≡ true) ahead (n - 1) all.last
      (Each-passes (λ q. is_from (place_start c) (cursor_at q)) (places_of lengths)) all.nth) in
      let on : From c (cursor_past all.last) = record {
        by_file = start.by_file;
        by_offset = λ e. omega (arith, start.by_offset e);
        by_slice = λ e e'. absurd (omega (arith, start.by_offset e));
      } in
      rw all.after on

  pub passes_front : places_between lengths c d ≡ take n (places_ahead lengths c)
  passes_front =
      let first : places_between lengths c (cursor_past all.last) ≡ take (suc (n - 1)) (places_ahead lengths c) =
      before_nth cursor_at (places_ahead lengths c) (n - 1) all.last (cursor_past all.last)
      (Rises-part_from cursor_at (place_start c) (places_of lengths) (Rises-places_of lengths)) all.nth
      (Before-past all.last) (λ q after. From-past_place all.last q after) in
      ap (places_between lengths c) all.after ∙ first ∙ ap (λ (m : ℕ). take m (places_ahead lengths c)) counted

  pub passed_by : PassedTo lengths c d n
  passed_by =
      let Inside : Place → Type 0 = λ p. p.offset < slice_index lengths p.file in
      let inside : Inside all.last =
      Each-slice_get Inside (places_ahead lengths c) (n - 1) all.last
      (Each-filter Inside (λ p. is_from (place_start c) (cursor_at p)) (places_of lengths)
      (Each-from_has Inside (places_of lengths) (place_at_place lengths))) all.nth in
      let within : n - 1 < length (places_ahead lengths c) = slice_get_within (places_ahead lengths c) (n - 1) all.last all.nth in
      record {
        onward = passes_onward;
        count = ap length passes_front ∙ length-take-le n (places_ahead lengths c) (omega (arith, counted));
        stays = inr (rw all.after (counted_of lengths all.last.file all.last.offset inside));
      }

-- no step goes back
pub moves_onward : (lengths : List ℕ) (budget : Option ℕ) (c d : Cursor) (answer : Result Step ReadFault)
    → StepMoves lengths budget c answer d → From c d
moves_onward lengths budget c d (Ok (Hit x)) moves =
    let on : From c (cursor_after x) = From-trans c (cursor_of x) (cursor_after x) (From-by_test c (cursor_of x) moves.onward)
    (From-before (cursor_of x) (cursor_after x) (Before-after x)) in
    rw moves.after on
moves_onward lengths (Some n) c d (Ok Spent) moves = passes_onward lengths n c d moves
moves_onward lengths None c d (Ok Spent) moves = absurd moves
moves_onward lengths budget c d (Ok Done) moves = rw moves.after (From-greater c (end_of lengths))
moves_onward lengths budget c d (Err fault) moves = From-by_test c d moves.onward

-- a step from d, after k places were passed from c on

contains_more : (xs : List Place) (m : ℕ) (p : Place) → Contains (take m xs) p → Contains xs p
contains_more xs m p has =
    subst (λ (ys : List Place). Contains ys p) (take-append-drop m xs) (Contains-append_left (take m xs) (drop m xs) p has)

covered_more : (budget : Option ℕ) (m : ℕ) (ps qs : List Place) (p : Place) → IsWithin (length ps + m) budget
    → Contains (take m qs) p → Contains (covered budget (ps ++ qs)) p
covered_more None m ps qs p within has = Contains-append_right ps qs p (contains_more qs m p has)
covered_more (Some n) m ps qs p within has =
    let j : ℕ = n - length ps in
    let sum : length ps + j ≡ n = omega arith in
    let less : m ≤ j = omega arith in
    let here : Contains (take m (take j qs)) p = rw (take-take m j qs less) has in
    subst (λ (ys : List Place). Contains ys p)
    (sym (take-append-add ps qs j) ∙ ap (λ (i : ℕ). take i (ps ++ qs)) sum)
    (Contains-append_right ps (take j qs) p (contains_more (take j qs) m p here))

slice_get-after : (ps qs : List Place) (j : ℕ) → slice_get (ps ++ qs) (length ps + j) ≡ slice_get qs j
slice_get-after [] qs j = ap (slice_get qs) (zero-add j)
slice_get-after (p ∷ ps) qs j = ap (slice_get (p ∷ ps ++ qs)) (suc-add (length ps) j) ∙ slice_get-after ps qs j

below_more : (budget : Option ℕ) (k m l : ℕ) → IsWithin (k + m) budget → l < m → IsBelow (k + l) budget
below_more None k m l within less = tt
below_more (Some n) k m l within less = omega arith

within_more : (budget : Option ℕ) (k m l : ℕ) → IsWithin (k + m) budget → l ≤ m → IsWithin (k + l) budget
within_more None k m l within less = tt
within_more (Some n) k m l within less = omega arith

module _ (lengths : List ℕ) (c d : Cursor) (k : ℕ) (w : PassedTo lengths c d k) where
  split : length (places_ahead lengths c) ≡ k + length (places_ahead lengths d)
  split =
      ap length (sym (places_then_ahead lengths c d w.onward))
      ∙ (length-append (places_between lengths c d) (places_ahead lengths d) ∙ ap (λ (j : ℕ). j + length (places_ahead lengths d)) w.count)

  more_hit : (budget : Option ℕ) (m : ℕ) (x : Sighting) (e : Cursor) → IsWithin (k + m) budget → HitsWithin lengths (Some m) d x e
      → HitsWithin lengths budget c x e
  more_hit budget m x e within hit = record {
    onward = is_from-true c (cursor_of x) (From-trans c d (cursor_of x) w.onward (From-by_test d (cursor_of x) hit.onward));
    near = subst (λ (ps : List Place). Contains (covered budget ps) (place_of x)) (places_then_ahead lengths c d w.onward)
        (covered_more budget m (places_between lengths c d) (places_ahead lengths d) (place_of x) (rw w.count within) hit.near);
    after = hit.after;
  }

  pub more_spent : (n m : ℕ) (e : Cursor) → k + m ≡ n → PassesAll lengths m d e → PassesAll lengths n c e
  more_spent n m e sum all =
      let at : n - 1 ≡ length (places_between lengths c d) + (m - 1) = omega (arith, all.some, w.count) in
      record {
        some = omega (arith, all.some);
        last = all.last;
        nth =
            ap (λ (ps : List Place). slice_get ps (n - 1)) (sym (places_then_ahead lengths c d w.onward))
            ∙ ap (slice_get (places_between lengths c d ++ places_ahead lengths d)) at
            ∙ slice_get-after (places_between lengths c d) (places_ahead lengths d) (m - 1)
            ∙ all.nth;
        after = all.after;
      }

  more_done : (budget : Option ℕ) (m : ℕ) (e : Cursor) → IsWithin (k + m) budget → ComesToEnd lengths (Some m) d e
      → ComesToEnd lengths budget c e
  more_done budget m e within done = record {
    few = rw split (below_more budget k m (length (places_ahead lengths d)) within done.few);
    after = done.after ∙ elim w.stays [
      | inl same ↦ ap (λ (b : Cursor). greater_of b (end_of lengths)) same
      | inr there ↦
          let on = w.onward in
          greater-end lengths d there ∙ sym (greater-end lengths c (omega (arith, on.by_file)))
    ];
  }

  more_on : (budget : Option ℕ) (m : ℕ) (e : Cursor) → IsWithin (k + m) budget → StaysWithin lengths (Some m) d e
      → StaysWithin lengths budget c e
  more_on budget m e within next =
      let on : From d e = From-by_test d e next.onward in
      let count : length (places_between lengths c e) ≡ k + length (places_between lengths d e) =
      ap length (sym (places_then_between lengths c d w.onward e on))
      ∙ (length-append (places_between lengths c d) (places_between lengths d e)
      ∙ ap (λ (j : ℕ). j + length (places_between lengths d e)) w.count) in
      record {
        onward = is_from-true c e (From-trans c d e w.onward on);
        near = rw count (within_more budget k m (length (places_between lengths d e)) within next.near);
      }

  pub more_moves : (budget : Option ℕ) (m : ℕ) (answer : Result Step ReadFault) (e : Cursor) → IsWithin (k + m) budget
      → (answer ≡ Ok Spent → ⊥) → StepMoves lengths (Some m) d answer e → StepMoves lengths budget c answer e
  more_moves budget m (Ok (Hit x)) e within other moves = more_hit budget m x e within moves
  more_moves budget m (Ok Spent) e within other moves = absurd (other refl)
  more_moves budget m (Ok Done) e within other moves = more_done budget m e within moves
  more_moves budget m (Err fault) e within other moves = more_on budget m e within moves
