-- The place that a search comes to next, and whether some slice fits into what is left of the file
-- there.
use Rattle.std.specs.Prelude.{ℕ, ◌-◌, ◌<◌, List, length, slice_index, IsTrue}
use Rattle.parwindow.specs.Index.{SliceSet, set_has_fit}
use Rattle.parfind.specs.declared.cursors.cursor.Cursor.{Cursor}
use Rattle.parfind.specs.Order.{is_from}

-- the cursor is at a place: its offset lies inside its file
abbrev pub IsAtPlace : List ℕ → Cursor → Type 0
IsAtPlace lengths c = c.offset < slice_index lengths c.file

-- how many bytes of the cursor's file are left from its offset on
abbrev pub rest_of : List ℕ → Cursor → ℕ
rest_of lengths c = slice_index lengths c.file - c.offset

-- some slice whose checksums are known fits into what is left of the cursor's file
abbrev pub HasFit : SliceSet → List ℕ → Cursor → Type 0
HasFit set lengths c = IsTrue (set_has_fit set (rest_of lengths c))

-- d is the least cursor from c on that is at a place
pub record IsNextPlace (lengths : List ℕ) (c d : Cursor) : Type 0 where
  pub onward : IsTrue (is_from c d)
  pub there : IsAtPlace lengths d
  pub counted : d.file < length lengths
  pub least : (e : Cursor) → IsTrue (is_from c e) → IsAtPlace lengths e → IsTrue (is_from d e)

-- no cursor from c on is at a place
abbrev pub NoPlaceFrom : List ℕ → Cursor → Type 0
NoPlaceFrom lengths c = (e : Cursor) → IsTrue (is_from c e) → ¬ IsAtPlace lengths e
