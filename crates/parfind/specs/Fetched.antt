-- How far files were read, and how many of their bytes reads returned.
use Rattle.std.specs.Prelude.{◌≡◌, ℕ, ◌+◌, ◌≤◌, ◌==◌, nat_lt, min, List, slice_index, if◌then◌else◌}
use Rattle.parshelf.specs.Shelf.{ShelfState}

-- the greatest number of bytes that are read ahead
abbrev pub ahead_limit : ℕ
ahead_limit = 4096

-- a place: a scanned file, by its number, and an offset in it
pub record Place : Type 0 where
  pub file : ℕ
  pub offset : ℕ

-- how many bytes of file f lie before a place: all of an earlier file, none of a later one
abbrev pub upto : List ℕ → Place → ℕ → ℕ
upto lengths p f =
    if nat_lt f p.file then slice_index lengths f
    else if f == p.file then min p.offset (slice_index lengths f) else 0

-- place q is not before place p, and of each file no more bytes were read than lie between them;
-- `before` and `after` are the numbers of bytes that were read of each file
pub record HandsUpTo (lengths before after : List ℕ) (p q : Place) : Type 0 where
  pub file_onward : p.file ≤ q.file
  pub onward : p.file ≡ q.file → p.offset ≤ q.offset
  pub handed :
      (f : ℕ) → slice_index after f + upto lengths p f ≤ slice_index before f + upto lengths q f

-- the same of a shelf before and after a call; p and q are the places up to which files were read
abbrev pub ReadsUpTo : ShelfState → ShelfState → Place → Place → Type 0
ReadsUpTo old new p q = HandsUpTo old.lengths old.handed new.handed p q
