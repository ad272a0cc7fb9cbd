-- The entries of an index, one for each slice whose checksums are known, in the order in which
-- binary search finds them.
use Rattle.std.specs.Prelude.{◌≡◌, ℕ, ◌<◌, ◌≤◌, ◌==◌, Bool, Option, None, Some, List, length, get_or, IsTrue, Contains, All, nat_le, nat_lt, not, ◌&&◌, min, if◌then◌else◌}
use Rattle.std.specs.declared.cmp.Ordering.{Ordering}
use Rattle.std.specs.declared.cmp.Ordering.TheVariants.{Less}
use Rattle.std.specs.List.{count_by, range_with_len}
use Rattle.std.specs.Ordering.{nat_cmp, then_cmp, on}
use Rattle.std.specs.Cmp.Lexicographic.{slice_cmp}
use Rattle.parset.specs.declared.recovery_set.SetSlice.{SetSlice}
use Rattle.parwindow.specs.Index.{slice_passes, has_known_crc, has_sums}
use Rattle.parwindow.specs.Missing.{found_at}
use Rattle.parwindow.specs.declared.slices.entries.Entry.{Entry}

-- entries are ordered by CRC-32, then by the bytes of the MD5, then by slice number
abbrev pub entry_cmp : Entry → Entry → Ordering
entry_cmp =
    then_cmp (on (λ (e : Entry). e.crc) nat_cmp)
    (then_cmp (on (λ (e : Entry). e.digest) (slice_cmp nat_cmp))
    (on (λ (e : Entry). e.slice) nat_cmp))

-- there is a slice n, and these are its CRC-32 and its MD5
abbrev pub HasSums : List SetSlice → ℕ → ℕ → List ℕ → Type 0
HasSums slices n crc digest = IsTrue (slice_passes slices (has_sums (record { 0 = digest }, crc)) n)

-- the entry has the checksums of its slice
abbrev pub IsEntryOf : List SetSlice → Entry → Type 0
IsEntryOf slices e = HasSums slices e.slice e.crc e.digest

-- the entry has this CRC-32
abbrev pub entry_has_crc : ℕ → Entry → Bool
entry_has_crc crc e = e.crc == crc

-- each slice with known checksums has its entry, and there are no other entries. For each
-- CRC-32 there is one entry for each slice that has it, also if only slices are counted
-- whose numbers pass a test
pub record IsIndexOf (slices : List SetSlice) (entries : List Entry) : Type 0 where
  pub sound : All (IsEntryOf slices) entries
  pub complete : (n crc : ℕ) (digest : List ℕ) → HasSums slices n crc digest
      → Contains entries (record { crc = crc; digest = digest; slice = n })
  pub counts : (test : ℕ → Bool) (crc : ℕ)
      → count_by (λ e. test e.slice && entry_has_crc crc e) entries
      ≡ count_by (λ n. test n && slice_passes slices (has_known_crc crc) n)
      (range_with_len 0 (length slices))

-- the entry at index `at` is the least one that is not below t, if there is any
pub record IsFloor (entries : List Entry) (t : Entry) (at : ℕ) : Type 0 where
  pub not_below : (e : Entry) → at < length entries → entry_cmp (get_or entries at e) t ≡ Less → ⊥
  pub first : (x e : Entry) → Contains entries x → (entry_cmp x t ≡ Less → ⊥)
      → (at < length entries) × (entry_cmp x (get_or entries at e) ≡ Less → ⊥)

-- each entry belongs to a slice with known checksums, and each slice that has these
-- checksums has its entry
pub record HasAllOf (slices : List SetSlice) (crc : ℕ) (digest : List ℕ) (entries : List Entry)
    : Type 0 where
  pub sound : All (IsEntryOf slices) entries
  pub complete : (n : ℕ) → HasSums slices n crc digest
      → Contains entries (record { crc = crc; digest = digest; slice = n })

-- the least slice number of the entries that is `from` or greater; None if there is none
abbrev pub IsLeastOf : List Entry → ℕ → Option ℕ → Type 0
IsLeastOf entries from None = All (λ e. e.slice < from) entries
IsLeastOf entries from (Some n) =
    (from ≤ n) × ((e : Entry) × (Contains entries e × (e.slice ≡ n)))
    × All (λ e. from ≤ e.slice → n ≤ e.slice) entries

-- the smaller one of a number n and of the least number so far, if n is `from` or greater; else
-- the least number so far
abbrev pub lesser : ℕ → Option ℕ → ℕ → Option ℕ
lesser from None n = if nat_lt n from then None else Some n
lesser from (Some least) n = if nat_lt n from then Some least else Some (min least n)

-- the slice's unpadded length is from `least` to `most`
abbrev pub is_between : ℕ → ℕ → SetSlice → Bool
is_between least most slice = nat_le least slice.length && nat_le slice.length most

-- the slice of the entry isn't found
abbrev pub is_unfound : List Bool → Entry → Bool
is_unfound found e = not (found_at found e.slice)

-- the slice of the entry passes a test and isn't found
abbrev pub is_open : List SetSlice → List Bool → (SetSlice → Bool) → Entry → Bool
is_open slices found test e = slice_passes slices test e.slice && not (found_at found e.slice)
