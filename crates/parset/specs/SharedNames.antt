-- Files that have the same name.
use Rattle.std.specs.Prelude.{ℕ, Bool, List, length, take, slice_get, Option}
use Rattle.std.specs.List.{list_any, range_with_len}
use Rattle.std.specs.Str.{bytes_eq}
use Rattle.parset.specs.Choosing.{first_found, only_if}
use Rattle.parset.specs.declared.bodies.description.Desc.{Desc}

-- the file has this name
abbrev pub has_name : List ℕ → Desc → Bool
has_name name file = bytes_eq file.name name

-- the file at index i, if a file before it has the same name
abbrev pub repeated_at : List Desc → ℕ → Option Desc
repeated_at files i =
    only_if (λ file. list_any (has_name file.name) (take i files)) (slice_get files i)

-- the first file that has the same name as a file before it
unfoldable pub repeated_name : List Desc → Option Desc
repeated_name files = first_found (repeated_at files) (range_with_len 0 (length files))
