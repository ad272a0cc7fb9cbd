-- The offsets at which a list of bytes has the magic, and how many bytes of a
-- file a salvage may read.
use Rattle.std.specs.Prelude.{◌≡◌, ℕ, ◌<◌, ◌≤◌, ◌+◌, ◌-◌, ◌*◌, ◌&&◌, Bool, IsTrue, List, length, take, drop, filter, sum_by, nat_le, if◌then◌else◌}
use Rattle.std.specs.List.{range_with_len}
use Rattle.std.specs.Str.{bytes_eq}
use Rattle.memchr.specs.Find.{matches}
use Rattle.parfield.specs.Packet.{has_header, length_field, magic_bytes}

-- the magic is at this offset
abbrev pub is_magic_at : List ℕ → ℕ → Bool
is_magic_at bytes at =
    nat_le (at + 8) (length bytes) && bytes_eq (take 8 (drop at bytes)) magic_bytes

-- two occurrences of the magic never overlap
abbrev pub MagicsNeverOverlap : Type 0
MagicsNeverOverlap =
    (bytes : List ℕ) (a b : ℕ) → IsTrue (is_magic_at bytes a) → IsTrue (is_magic_at bytes b)
    → a < b → a + 8 ≤ b

-- the bytes are framed like a packet: they have a header and are no shorter than it says.
-- The hash may be wrong
abbrev pub begins_framed : List ℕ → Bool
begins_framed bytes = has_header bytes && nat_le (length_field bytes) (length bytes)

-- the length field of bytes that are framed like a packet, else 0
abbrev pub framed_size : List ℕ → ℕ
framed_size bytes = if begins_framed bytes then length_field bytes else 0

-- bytes that are framed like a packet begin at this offset
abbrev pub is_framed_at : List ℕ → ℕ → Bool
is_framed_at bytes at = begins_framed (drop at bytes)

-- the offsets from a up to b at which the magic is, in increasing order
abbrev pub magic_places_between : List ℕ → ℕ → ℕ → List ℕ
magic_places_between bytes a b = filter (is_magic_at bytes) (range_with_len a (b - a))

-- a search that goes on after each occurrence finds the magic at every offset at which it is
abbrev pub EachMagicIsFound : Type 0
EachMagicIsFound =
    (bytes : List ℕ) → matches bytes magic_bytes 0 ≡ magic_places_between bytes 0 (length bytes)

-- the lengths of all that is framed like a packet at these offsets, added up
abbrev pub framed_length : List ℕ → List ℕ → ℕ
framed_length bytes places =
    sum_by (λ at. length_field (drop at bytes)) (filter (is_framed_at bytes) places)

-- 64 bytes (a header) for each of these offsets, and twice the length of all that is
-- framed like a packet there
abbrev pub places_limit : List ℕ → List ℕ → ℕ
places_limit bytes places = 64 * length places + 2 * framed_length bytes places

-- the same for all offsets from a up to b at which the magic is
unfoldable pub limit_between : List ℕ → ℕ → ℕ → ℕ
limit_between bytes a b = places_limit bytes (magic_places_between bytes a b)

-- how many bytes a salvage may read: each byte once for the search, 64 for each occurrence of the
-- magic, and twice the length of all that is framed like a packet
abbrev pub salvage_limit : List ℕ → ℕ
salvage_limit bytes = length bytes + limit_between bytes 0 (length bytes)
