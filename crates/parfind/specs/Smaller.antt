-- The smaller set with which a survey continues: some slices that are found have lost their
-- checksums in it, so that nothing looks for them.
use Rattle.std.specs.Prelude.{◌≡◌, ℕ, Bool, List, length, IsTrue, Option, None, Some}
use Rattle.parwindow.specs.Index.{SliceSet}
use Rattle.parwindow.specs.Missing.{found_at, missing_set}

-- the smaller set if there is one, else the whole set
abbrev pub part_of : SliceSet → Option SliceSet → SliceSet
part_of all None = all
part_of all (Some smaller) = smaller

-- `part` has the slices of the whole set, but some of those that are found, or none, have lost
-- their checksums
pub record IsPart (all : SliceSet) (found : List Bool) (part : SliceSet) : Type 0 where
  pub lost : List Bool
  pub each : length lost ≡ length all.slices
  pub are_found : (n : ℕ) → IsTrue (found_at lost n) → IsTrue (found_at found n)
  pub part_is : part ≡ missing_set all lost
