-- The directory of the entries: the part of the list that each key has. The key is the
-- top bits of a CRC-32.
use Rattle.std.specs.Prelude.{◌≡◌, ℕ, ◌+◌, ◌-◌, ◌/◌, ◌<◌, ◌≤◌, ◌==◌, Bool, List, length, take, drop, filter, slice_index}
use Rattle.std.specs.List.{AllWithin}
use Rattle.parwindow.specs.declared.slices.entries.Entry.{Entry}

-- the number of keys, which is 2^13
abbrev pub key_count : ℕ
key_count = 8_192

-- the key of a CRC-32: its top 13 bits
abbrev pub key_of : ℕ → ℕ
key_of crc = crc / 524288

-- the CRC-32 of the entry has this key
abbrev pub entry_has_key : ℕ → Entry → Bool
entry_has_key key e = key_of e.crc == key

-- the entries before index `at` have smaller keys, and those from there on have this
-- key or a greater one
pub record BeginsKey (entries : List Entry) (key at : ℕ) : Type 0 where
  pub within : at ≤ length entries
  pub before : AllWithin (λ e. key_of e.crc < key) entries 0 at
  pub after : AllWithin (λ e. key ≤ key_of e.crc) entries at (length entries)

-- the entries from index `from` up to `to` are all entries of this key, in order
pub record IsPart (entries : List Entry) (key from to : ℕ) : Type 0 where
  pub rises : from ≤ to
  pub within : to ≤ length entries
  pub part : take (to - from) (drop from entries) ≡ filter (entry_has_key key) entries

-- each key's entries are those from its number in `starts` up to the next number
pub record AreStarts (entries : List Entry) (starts : List ℕ) : Type 0 where
  pub each : length starts ≡ key_count + 1
  pub parts : (key : ℕ) → key < key_count
      → IsPart entries key (slice_index starts key) (slice_index starts (key + 1))
