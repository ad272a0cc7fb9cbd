-- Packets (PAR2 2.0, packet header). Each definition looks at the front of a list of bytes.
use Rattle.std.specs.Prelude.{◌≡◌, ◌≢◌, ◌<◌, ◌≤◌, ℕ, ◌%◌, ◌==◌, ◌&&◌, ◌⊎◌, Bool, List, [], ◌∷◌, length, slice_range, nat_le}
use Rattle.std.specs.Str.{bytes_eq}
use Rattle.md5.specs.Md5.{md5}
use Rattle.parfield.specs.Bytes.{le_value}
use Rattle.parfield.specs.Kind.{kind_of}
use Rattle.parfield.specs.declared.headers.Header.{Header}
use Rattle.parfield.specs.declared.headers.HeaderFault.{HeaderFault}
use Rattle.parfield.specs.declared.headers.HeaderFault.TheVariants.{Short, NoMagic, BadLength}
use Rattle.parfield.specs.declared.headers.Packet.{Packet}
use Rattle.parfield.specs.declared.hash16.Hash16.{Hash16}
use Rattle.parfield.specs.declared.kind.Kind.{Kind}

-- what each packet begins with: `PAR2`, a zero byte, `PKT`
abbrev pub magic_bytes : List ℕ
magic_bytes = 80 ∷ 65 ∷ 82 ∷ 50 ∷ 0 ∷ 80 ∷ 75 ∷ 84 ∷ []

-- the length field, the eight bytes after the magic: how long the whole packet is
abbrev pub length_field : List ℕ → ℕ
length_field bytes = le_value (slice_range bytes 8 16)

-- the bytes begin with a packet header
abbrev pub has_header : List ℕ → Bool
has_header bytes =
    nat_le 64 (length bytes) && (bytes_eq (slice_range bytes 0 8) magic_bytes
    && (nat_le 64 (length_field bytes) && length_field bytes % 4 == 0))

-- the fields of the header that the bytes begin with
abbrev pub header_of : List ℕ → Header
header_of bytes = record {
  length = length_field bytes;
  hash = record { 0 = slice_range bytes 16 32 };
  set = record { 0 = slice_range bytes 32 48 };
  kind = kind_of (slice_range bytes 48 64);
}

-- this is the first fault that applies to the bytes: they are tested in the order of the variants
abbrev pub IsFirstFault : List ℕ → HeaderFault → Type 0
IsFirstFault bytes Short = length bytes < 64
IsFirstFault bytes NoMagic = (64 ≤ length bytes) × (slice_range bytes 0 8 ≢ magic_bytes)
IsFirstFault bytes BadLength =
    (64 ≤ length bytes) × (slice_range bytes 0 8 ≡ magic_bytes)
    × ((length_field bytes < 64) ⊎ (length_field bytes % 4 ≢ 0))

-- the bytes begin with a packet: a header, no fewer bytes than its length field says, and their
-- MD5 in its hash field
abbrev pub begins_packet : List ℕ → Bool
begins_packet bytes =
    has_header bytes && (nat_le (length_field bytes) (length bytes)
    && bytes_eq (md5 (slice_range bytes 32 (length_field bytes))) (slice_range bytes 16 32))

-- a packet at an offset, with its body as a list of bytes
pub record FoundPacket : Type 0 where
  pub at : ℕ
  pub length : ℕ
  pub set : Hash16
  pub kind : Kind
  pub body : List ℕ

-- the packet that the bytes begin with, if their offset in the file is `at`
abbrev pub packet_of : ℕ → List ℕ → FoundPacket
packet_of at bytes = record {
  at = at;
  length = length_field bytes;
  set = (header_of bytes).set;
  kind = (header_of bytes).kind;
  body = slice_range bytes 64 (length_field bytes);
}

-- a packet as contracts see it, with its body as a list of bytes
abbrev pub packet_view : Packet → FoundPacket
packet_view packet = record {
  at = packet.at;
  length = packet.length;
  set = packet.set;
  kind = packet.kind;
  body = packet.body.now;
}
