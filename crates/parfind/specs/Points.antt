-- The state of a search between two calls.
use Rattle.parshelf.specs.Shelf.{ShelfState}
use Rattle.parfind.specs.declared.cursors.cursor.Cursor.{Cursor}
use Rattle.parfind.specs.Fetched.{Place}

-- a shelf (the scanned files, and the reads of them so far), and the cursor of a search over it
pub record SearchPoint : Type 0 where
  pub shelf : ShelfState
  pub cursor : Cursor

-- a search over this shelf, at this cursor
abbrev pub search_at : ShelfState → Cursor → SearchPoint
search_at shelf cursor = record { shelf = shelf; cursor = cursor }

-- a shelf, the cursor of a search over it, and the place up to which files were read
pub record SearchState : Type 0 where
  pub shelf : ShelfState
  pub fetched : Place
  pub cursor : Cursor

-- the shelf and the cursor, without the place up to which files were read
abbrev pub point_of : SearchState → SearchPoint
point_of search = search_at search.shelf search.cursor
