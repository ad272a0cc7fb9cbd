-- How many bytes of each file are read between two states of a shelf.
use Rattle.std.specs.Prelude.{◌≡◌, ◌+◌, ◌≤◌, ℕ, false, slice_index}
use Rattle.parshelf.specs.Shelf.{ShelfState}
use Rattle.parshelf.specs.Reads.{HandsPerFile}
use Rattle.parwindow.specs.Index.{SliceSet, set_has_fit}
use Rattle.parfind.specs.Fetched.{Place, ahead_limit, upto}
use Rattle.parfind.specs.declared.tracks.mode.Mode.{Mode}
use Rattle.parfind.specs.declared.tracks.mode.Mode.TheVariants.{Plain, Tails}

-- of each file, at most its length is read
abbrev pub HandsEachOnce : ShelfState → ShelfState → Type 0
HandsEachOnce old new = HandsPerFile (slice_index old.lengths) old new

-- how many bytes of a file of this length a survey reads at most: its length in the plain mode, and
-- twice its length with tails
abbrev pub surveyed_length : Mode → ℕ → ℕ
surveyed_length Plain size = size
surveyed_length Tails size = size + size

-- of each file, at most the bytes are read that a survey may read of it
abbrev pub HandsInMode : Mode → ShelfState → ShelfState → Type 0
HandsInMode mode old new =
    HandsPerFile (λ f. surveyed_length mode (slice_index old.lengths f)) old new

-- the place that is a window of this size and 4,096 bytes after another place
abbrev pub further : ℕ → Place → Place
further size p = record p { offset = p.offset + size + ahead_limit }

-- of each file, at most the bytes before the place that is a window and 4,096 bytes after p are
-- read; so none of the files after that of p
abbrev pub HandsAround : ℕ → ShelfState → ShelfState → Place → Type 0
HandsAround size old new p = HandsPerFile (upto old.lengths (further size p)) old new

-- nothing is read of a file into which no slice whose checksums are known fits
abbrev pub SkipsUnfit : SliceSet → ShelfState → ShelfState → Type 0
SkipsUnfit set old new =
    (f : ℕ) → set_has_fit set (slice_index old.lengths f) ≡ false
    → slice_index new.handed f ≤ slice_index old.handed f
