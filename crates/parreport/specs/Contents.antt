-- How much of each file is handed over while those are read whole that may be files of the set.
use Rattle.std.specs.Prelude.{ℕ, List, slice_index, if◌then◌else◌}
use Rattle.parset.specs.declared.recovery_set.SetFile.{SetFile}
use Rattle.parshelf.specs.Shelf.{ShelfState}
use Rattle.parshelf.specs.Reads.{HandsPerFile}
use Rattle.parreport.specs.States.{has_length}

-- how many bytes of a file of this length are read for its MD5: all if some file of the set has
-- this length, else none
abbrev pub checked_length_of : List SetFile → ℕ → ℕ
checked_length_of files n = if has_length files n then n else 0

-- of each file at most what it is checked by
abbrev pub ReadsCandidates : List SetFile → ShelfState → ShelfState → Type 0
ReadsCandidates files old new =
    HandsPerFile (λ file. checked_length_of files (slice_index old.lengths file)) old new
