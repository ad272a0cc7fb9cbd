-- The fingerprint of a list of files: the MD5 of the name and the length of each.
use Rattle.std.specs.Prelude.{ℕ, List, ◌++◌, length}
use Rattle.std.specs.Int.{to_le_bytes, w64}
use Rattle.std.specs.List.{flat_map, zip}
use Rattle.md5.specs.Md5.{md5}

-- a file as it is hashed: the length of its name in 8 bytes, its name, and the
-- file's length in 8 bytes
abbrev pub listed_file : List ℕ × ℕ → List ℕ
listed_file file = to_le_bytes w64 (length file.0) ++ (file.0 ++ to_le_bytes w64 file.1)

-- the bytes that are hashed for a list of files, in its order
unfoldable pub list_bytes : List (List ℕ) → List ℕ → List ℕ
list_bytes names lengths = flat_map listed_file (zip names lengths)

-- the fingerprint of files that have these names and lengths
abbrev pub mark_of_list : List (List ℕ) → List ℕ → List ℕ
mark_of_list names lengths = md5 (list_bytes names lengths)
