-- How many bytes of the files a search reads: in one call, and in all calls since its opening.
use Rattle.std.specs.Prelude.{◌≡◌, ℕ, ◌+◌, ◌-◌, ◌<◌, ◌≤◌, ◌==◌, nat_lt, List, [], ◌∷◌, slice_index, if◌then◌else◌}
use Rattle.parshelf.specs.Reads.{HandsPerFile}
use Rattle.parfind.specs.declared.cursors.cursor.Cursor.{Cursor}
use Rattle.parfind.specs.Fetched.{Place, ReadsUpTo, ahead_limit}
use Rattle.parfind.specs.Places.{place_at}
use Rattle.parfind.specs.Points.{SearchPoint, SearchState, point_of}

-- no file after cursor d's file was read, and that file at most up to a window and 4,096 bytes
-- after the cursor
pub record IsNear (size : ℕ) (fetched : Place) (d : Cursor) : Type 0 where
  pub file_is : fetched.file ≤ d.file
  pub offset_is : fetched.file ≡ d.file → fetched.offset ≤ d.offset + size + ahead_limit

-- what is true of each call, whatever it returns: lengths stay, it reads on from the place up to
-- which the search had read, and not far past its cursor
pub record CallReads (size : ℕ) (old new : SearchState) : Type 0 where
  pub lengths_are : new.shelf.lengths ≡ old.shelf.lengths
  pub reads : ReadsUpTo old.shelf new.shelf old.fetched new.fetched
  pub near : IsNear size new.fetched new.cursor

-- calls one after another, given as the states after each of them: the first call begins at `old`,
-- and `new` is the state after the last
abbrev pub CallsRead : ℕ → SearchState → List SearchState → SearchState → Type 0
CallsRead size old [] new = new ≡ old
CallsRead size old (next ∷ others) new = CallReads size old next × CallsRead size next others new

-- the offset at which a search from cursor c enters file f: in the cursor's file its offset, in a
-- later file 0
abbrev pub entry_of : Cursor → ℕ → ℕ
entry_of c f = if f == c.file then c.offset else 0

-- how many bytes of file f are ahead of cursor c
abbrev pub room_of : List ℕ → Cursor → ℕ → ℕ
room_of lengths c f = if nat_lt f c.file then 0 else slice_index lengths f - entry_of c f

-- of each file, at most the bytes ahead of the old cursor were read: of a file after the new
-- cursor's file none, and of that file at most up to a window and 4,096 bytes after the new cursor
pub record HandsWithin (size : ℕ) (old new : SearchPoint) : Type 0 where
  pub room : HandsPerFile (room_of old.shelf.lengths old.cursor) old.shelf new.shelf
  pub none : (f : ℕ) → new.cursor.file < f
      → slice_index new.shelf.handed f ≤ slice_index old.shelf.handed f
  pub near : slice_index new.shelf.handed new.cursor.file
      ≤ slice_index old.shelf.handed new.cursor.file
      + (new.cursor.offset - entry_of old.cursor new.cursor.file + size + ahead_limit)

-- this is so after all calls since an opening, whatever their number
abbrev pub ReachAddsUp : Type 0
ReachAddsUp =
    (size : ℕ) (opened now : SearchState) (calls : List SearchState)
    → opened.fetched ≡ place_at opened.cursor → CallsRead size opened calls now
    → HandsWithin size (point_of opened) (point_of now)
