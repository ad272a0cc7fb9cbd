-- The moves of a step of a search, given only the lengths of the scanned files, whatever their
-- bytes are.
use Rattle.std.specs.Prelude.{◌≡◌, ℕ, ◌+◌, ◌-◌, ◌<◌, ◌≤◌, List, length, take, filter, Contains, IsTrue, Option, None, Some, Result, Ok, Err, slice_get, if◌then◌else◌}
use Rattle.parshelf.specs.declared.shelves.reading.ReadFault.{ReadFault}
use Rattle.parwindow.specs.Index.{SliceSet}
use Rattle.parfind.specs.declared.cursors.cursor.Cursor.{Cursor}
use Rattle.parfind.specs.declared.cursors.sighting.Sighting.{Sighting}
use Rattle.parfind.specs.Fetched.{Place}
use Rattle.parfind.specs.declared.searches.finder.Step.{Step}
use Rattle.parfind.specs.declared.searches.finder.Step.TheVariants.{Hit, Spent, Done}
use Rattle.parfind.specs.Order.{is_before, is_from, cursor_of, cursor_after}
use Rattle.parfind.specs.Places.{cursor_past, place_of, places_ahead, places_between}
use Rattle.parfind.specs.Points.{SearchPoint}
use Rattle.parfind.specs.Sightings.{triples_of}

-- the first places, as many as the budget has; all of them without a budget
abbrev pub covered : Option ℕ → List Place → List Place
covered None places = places
covered (Some n) places = take n places

-- the number is at most the budget, or there is no budget
abbrev pub IsWithin : ℕ → Option ℕ → Type 0
IsWithin k None = Unit {0}
IsWithin k (Some n) = k ≤ n

-- the number is less than the budget, or there is no budget
abbrev pub IsBelow : ℕ → Option ℕ → Type 0
IsBelow k None = Unit {0}
IsBelow k (Some n) = k < n

-- the cursor after all files
abbrev pub end_of : List ℕ → Cursor
end_of lengths = record { file = length lengths; offset = 0; slice = 0 }

-- the later one of two cursors
abbrev pub greater_of : Cursor → Cursor → Cursor
greater_of c d = if is_before c d then d else c

-- a hit: the sighting x is not before cursor c, its place is one that the budget covers, and d is
-- the cursor just after x
pub record HitsWithin
    (lengths : List ℕ) (budget : Option ℕ) (c : Cursor) (x : Sighting) (d : Cursor) : Type 0 where
  pub onward : IsTrue (is_from c (cursor_of x))
  pub near : Contains (covered budget (places_ahead lengths c)) (place_of x)
  pub after : d ≡ cursor_after x

-- a spent budget: at least n places are ahead of cursor c, and d is just after the n-th of them
pub record PassesAll (lengths : List ℕ) (n : ℕ) (c d : Cursor) : Type 0 where
  pub some : 0 < n
  pub last : Place
  pub nth : slice_get (places_ahead lengths c) (n - 1) ≡ Some last
  pub after : d ≡ cursor_past last

-- the end of a search: fewer places are ahead of cursor c than the budget has, and d is the end of
-- all files, or c if c is after it
pub record ComesToEnd (lengths : List ℕ) (budget : Option ℕ) (c d : Cursor) : Type 0 where
  pub few : IsBelow (length (places_ahead lengths c)) budget
  pub after : d ≡ greater_of c (end_of lengths)

-- an error: cursor d is not before c, and no more places lie between them than the budget has
pub record StaysWithin (lengths : List ℕ) (budget : Option ℕ) (c d : Cursor) : Type 0 where
  pub onward : IsTrue (is_from c d)
  pub near : IsWithin (length (places_between lengths c d)) budget

-- the move of a step from cursor c, for each result, with a budget of places or without one, which
-- can't be spent; d is the cursor after the step
abbrev pub StepMoves : List ℕ → Option ℕ → Cursor → Result Step ReadFault → Cursor → Type 0
StepMoves lengths budget c (Ok (Hit x)) d = HitsWithin lengths budget c x d
StepMoves lengths (Some n) c (Ok Spent) d = PassesAll lengths n c d
StepMoves lengths None c (Ok Spent) d = ⊥
StepMoves lengths budget c (Ok Done) d = ComesToEnd lengths budget c d
StepMoves lengths budget c (Err fault) d = StaysWithin lengths budget c d

-- a bound on the steps that may still be a hit or spend a budget: each of them passes a place, or a
-- slice at a place
abbrev pub steps_left : SliceSet → List ℕ → Cursor → ℕ
steps_left set lengths c =
    length (filter (λ x. is_from c (cursor_of x)) (triples_of set lengths))
    + length (places_ahead lengths c)

-- a hit names a file and a slice that exist; after a hit or a spent budget, fewer steps are left. A
-- step without a budget can't spend one
abbrev pub Advances : SliceSet → Option ℕ → SearchPoint → Step → Cursor → Type 0
Advances set budget old (Hit x) d =
    (x.file < length old.shelf.lengths) × (x.slice < length set.slices)
    × (steps_left set old.shelf.lengths d < steps_left set old.shelf.lengths old.cursor)
Advances set (Some n) old Spent d =
    steps_left set old.shelf.lengths d < steps_left set old.shelf.lengths old.cursor
Advances set None old Spent d = ⊥
Advances set budget old Done d = Unit {0}
