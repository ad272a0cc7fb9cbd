-- The steps of a search: the move of each, the sightings that it sees, and the bytes that it reads.
use Rattle.std.specs.Prelude.{◌≡◌, ℕ, List, [], ◌∷◌, length, map, take, All, Contains, IsTrue, Option, Some, Result, Ok, Err}
use Rattle.parshelf.specs.Reads.{ReadsOnly, FaultsIn}
use Rattle.parshelf.specs.declared.shelves.reading.ReadFault.{ReadFault}
use Rattle.parshelf.specs.declared.shelves.reading.ReadFault.TheVariants.{Failed, Ended}
use Rattle.parfind.specs.Sought.{Sought}
use Rattle.parfind.specs.declared.cursors.cursor.Cursor.{Cursor}
use Rattle.parfind.specs.declared.cursors.sighting.Sighting.{Sighting}
use Rattle.parfind.specs.declared.searches.finder.Step.{Step}
use Rattle.parfind.specs.declared.searches.finder.Step.TheVariants.{Hit, Spent, Done}
use Rattle.parfind.specs.Order.{is_from}
use Rattle.parfind.specs.Places.{place_of, places_ahead}
use Rattle.parfind.specs.Points.{SearchPoint}
use Rattle.parfind.specs.Sightings.{Scan, sightings_from, sightings_between}
use Rattle.parfind.specs.Moves.{StepMoves}

-- a search for these slices in files of these contents
abbrev pub scan_of : Sought → List (List ℕ) → Scan
scan_of sought files = record { sought = sought; contents = files }

-- the lengths of the scanned files
abbrev pub lengths_of : Scan → List ℕ
lengths_of scan = map length scan.contents

-- what a step from cursor c to cursor d sees: a hit is the first sighting from c on; after `Done`
-- there is none from c on; after `Spent` or an error there is none between c and d, so none at the
-- places that were passed
abbrev pub StepSees : Scan → Cursor → Result Step ReadFault → Cursor → Type 0
StepSees scan c (Ok (Hit x)) d = sightings_from scan c ≡ x ∷ sightings_from scan d
StepSees scan c (Ok Spent) d = sightings_between scan c d ≡ []
StepSees scan c (Ok Done) d = sightings_from scan c ≡ []
StepSees scan c (Err fault) d = sightings_between scan c d ≡ []

-- what a step reads: without an error, no read fails. An error is exactly one failed read, of the
-- file at the new cursor. An unexpected end of file can't occur if files are consistent with the
-- reads
abbrev pub StepCounts : SearchPoint → Result Step ReadFault → SearchPoint → Type 0
StepCounts old (Ok step) new = ReadsOnly old.shelf new.shelf
StepCounts old (Err Failed) new = FaultsIn old.shelf new.shelf new.cursor.file Failed
StepCounts old (Err Ended) new = ⊥

-- a step of a search in these files, with a budget of places or without one; `old` and `new` are
-- the shelf and the cursor before it and after it
pub record StepGives
    (scan : Scan) (budget : Option ℕ) (old : SearchPoint) (answer : Result Step ReadFault)
    (new : SearchPoint) : Type 0 where
  pub moves : StepMoves (lengths_of scan) budget old.cursor answer new.cursor
  pub sees : StepSees scan old.cursor answer new.cursor
  pub counts : StepCounts old answer new

-- the sighting of a result, if it is a hit; else none
abbrev pub hit_of : Result Step ReadFault → List Sighting
hit_of (Ok (Hit x)) = x ∷ []
hit_of (Ok Spent) = []
hit_of (Ok Done) = []
hit_of (Err fault) = []

-- a step doesn't go back, and returns exactly the sightings that it passes
abbrev pub StepHandsOut : Type 0
StepHandsOut =
    (scan : Scan) (budget : Option ℕ) (old new : SearchPoint) (answer : Result Step ReadFault)
    → StepGives scan budget old answer new → IsTrue (is_from old.cursor new.cursor)
    × (sightings_between scan old.cursor new.cursor ≡ hit_of answer)

-- if a budget of n places is spent, none of the sightings from the cursor on is at one of the first
-- n places
abbrev pub SpentSeesNone : Type 0
SpentSeesNone =
    (scan : Scan) (n : ℕ) (old new : SearchPoint) → StepGives scan (Some n) old (Ok Spent) new
    → All (λ x. ¬ Contains (take n (places_ahead (lengths_of scan) old.cursor)) (place_of x))
    (sightings_from scan old.cursor)
