-- The files that arguments name: packet files are known by their ending, and
-- all others are scanned.
use Rattle.std.specs.Prelude.{ℕ, ◌-◌, Bool, not, List, [], ◌++◌, length, drop, map, Option, Some, None, if◌then◌else◌, nat_eq, codes}
use Rattle.std.specs.List.{starts_with, ends_with}
use Rattle.std.specs.Str.{bytes_eq}
use Rattle.std.specs.Char.{to_ascii_lowercase}
use Rattle.parplan.specs.declared.command.Scanned.{Scanned}

-- the argument names a packet file: its last five bytes are `.par2`, in letters of either case
unfoldable pub is_packet_file : List ℕ → Bool
is_packet_file word =
    bytes_eq (map to_ascii_lowercase (drop (length word - 5) word)) (codes ".par2")

-- the argument names a file to be scanned: any file that isn't a packet file
abbrev pub is_scanned_file : List ℕ → Bool
is_scanned_file word = not (is_packet_file word)

-- the folder DIR of `-B DIR`, with a `/` at its end
unfoldable pub folder_of : List ℕ → List ℕ
folder_of dir = if ends_with nat_eq dir (codes "/") then dir else dir ++ codes "/"

-- the prefix that names of scanned files lose: the folder of `-B DIR`, or an empty
-- text if there is none
abbrev pub base_prefix : Option (List ℕ) → List ℕ
base_prefix None = []
base_prefix (Some dir) = folder_of dir

-- the argument without the prefix, if it begins with it
unfoldable pub without_prefix : List ℕ → List ℕ → List ℕ
without_prefix prefix word = if starts_with nat_eq word prefix then drop (length prefix) word else word

-- a scanned file: its path is the argument, and its name is the argument without the prefix
abbrev pub scanned_as : List ℕ → List ℕ → Scanned
scanned_as prefix word = record { path = word; name = without_prefix prefix word }
