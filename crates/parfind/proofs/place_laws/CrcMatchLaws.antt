-- How marks (places and compared lengths with the CRC-32 of a slice) are counted: their number
-- doesn't decrease as a search goes on, and past a place it has grown by that place's marks.
use Rattle.std.proofs.Common.{◌≡◌, ℕ, ◌+◌, ◌<◌, ◌≤◌, Bool, List, [], ◌∷◌, ◌++◌, filter, length, sym, ap, ◌∙◌, arith, inl, inr}
use Rattle.std.specs.List.{sum_by}
use Rattle.std.proofs.lemmas.Bool.{cases_Bool}
use Rattle.std.proofs.lemmas.List.Sums.{sum_by-append, sum_by-cons}
use Rattle.parfind.specs.Fetched.{Place}
use Rattle.parfind.specs.declared.cursors.cursor.Cursor.{Cursor}
use Rattle.parfind.specs.NextPlace.{IsAtPlace}
use Rattle.parfind.specs.Marks.{marks_at, marked_between}
use Rattle.parfind.specs.Order.{is_before, is_from}
use Rattle.parfind.specs.Places.{cursor_at, cursor_past, place_at, place_start, places_of, places_ahead, places_between}
use Rattle.parfind.specs.Sightings.{Scan}
use Rattle.parfind.specs.Steps.{lengths_of}
use Rattle.parfind.proofs.place_laws.CursorOrderLaws.{From}
use Rattle.parfind.proofs.search_laws.StepMovesLaws.{places_then_between}
use Rattle.parfind.proofs.place_laws.PlaceLaws.{only_here, From-past}

-- a sum over only the elements that pass a test isn't greater than the sum over all
sum_fewer : {A : Type 0} (f : A → ℕ) (q : A → Bool) (xs : List A) → sum_by f (filter q xs) ≤ sum_by f xs
sum_fewer f q [] = omega arith
sum_fewer f q (x ∷ xs) = elim (cases_Bool (q x)) [
  | inl h ↦ rw h (omega (arith, sum_fewer f q xs, sum_by-cons f x xs, sum_by-cons f x (filter q xs)))
  | inr h ↦ rw h (omega (arith, sum_fewer f q xs, sum_by-cons f x xs))
]

-- the sum of a count over the places between two cursors
module _ (count : Place → ℕ) (lengths : List ℕ) where
  abbrev pub counted_between : Cursor → Cursor → ℕ
  counted_between c d = sum_by count (places_between lengths c d)

  module _ (c d e : Cursor) (on : From (place_start c) d) (next : From d e) where
    counted_split : counted_between c e ≡ counted_between c d + counted_between d e
    counted_split =
        let parts : places_between lengths c d ++ places_between lengths d e ≡ places_between lengths c e =
        places_then_between lengths (place_start c) d on e next in
        ap (sum_by count) (sym parts) ∙ sum_by-append count (places_between lengths c d) (places_between lengths d e)

    pub counted_rises : counted_between c d ≤ counted_between c e
    counted_rises = omega (arith, counted_split)

  pub counted_more : (c d : Cursor) → From (place_start c) d → d.file < length lengths → IsAtPlace lengths d
      → counted_between c d + count (place_at d) ≡ counted_between c (cursor_past (place_at d))
  counted_more c d on counted there =
      let one : counted_between d (cursor_past (place_at d)) ≡ count (place_at d) + 0 =
      ap (sum_by count) (only_here lengths d counted there) ∙ sum_by-cons count (place_at d) [] in
      omega (arith, counted_split c d (cursor_past (place_at d)) on (From-past d), one)

  -- the sum between two cursors isn't greater than the sum over all places
  pub counted_most : (c d : Cursor) → counted_between c d ≤ sum_by count (places_of lengths)
  counted_most c d =
      omega (
        arith,
        sum_fewer count (λ p. is_before (cursor_at p) (place_start d)) (places_ahead lengths c),
        sum_fewer count (λ p. is_from (place_start c) (cursor_at p)) (places_of lengths),
      )

pub marked_rises : (scan : Scan) (c d e : Cursor) → From (place_start c) d → From d e → marked_between scan c d ≤ marked_between scan c e
marked_rises scan c d e on next = counted_rises (marks_at scan) (lengths_of scan) c d e on next

pub marked_more : (scan : Scan) (c d : Cursor) → From (place_start c) d → d.file < length (lengths_of scan) → IsAtPlace (lengths_of scan) d
    → marked_between scan c d + marks_at scan (place_at d) ≡ marked_between scan c (cursor_past (place_at d))
marked_more scan c d on counted there = counted_more (marks_at scan) (lengths_of scan) c d on counted there
