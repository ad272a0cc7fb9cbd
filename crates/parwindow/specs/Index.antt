-- The slices of a recovery set with their checksums, as an index sees them (PAR2 2.0, Input File
-- Slice Checksum packet).
use Rattle.std.specs.Prelude.{◌≡◌, ℕ, ◌-◌, ◌<◌, ◌≤◌, ◌%◌, ◌==◌, ◌&&◌, nat_le, Bool, false, List, length, slice_get, is_some, filter, All}
use Rattle.std.specs.List.{list_any, range_with_len}
use Rattle.std.specs.Option.{option_map_or}
use Rattle.std.specs.Str.{bytes_eq}
use Rattle.parfield.specs.declared.hash16.Hash16.{Hash16}
use Rattle.parset.specs.declared.recovery_set.SetSlice.{SetSlice}
use Rattle.parfield.specs.Md5.{md5}
use Rattle.parwindow.specs.Crc32.{crc_of}
use Rattle.parset.specs.Limits.{slice_size_limit, slice_limit}

-- the slices of a recovery set
pub record SliceSet : Type 0 where
  -- how many bytes a slice has with its padding
  pub slice_size : ℕ
  -- the slices in the order of their numbers: the unpadded length of each, and its
  -- checksums if they are known
  pub slices : List SetSlice

-- the slices of a recovery set that has this slice size
abbrev pub slice_set_of : ℕ → List SetSlice → SliceSet
slice_set_of size slices = record { slice_size = size; slices = slices }

-- the limits that the slices of an index satisfy
pub record IsSliceSet (set : SliceSet) : Type 0 where
  pub least_size : 4 ≤ set.slice_size
  pub greatest_size : set.slice_size ≤ slice_size_limit
  pub multiple : set.slice_size % 4 ≡ 0
  pub few : length set.slices ≤ slice_limit
  pub own : All (λ slice. (0 < slice.length) × (slice.length ≤ set.slice_size)) set.slices

-- there is a slice n, and it passes a test
abbrev pub slice_passes : List SetSlice → (SetSlice → Bool) → ℕ → Bool
slice_passes slices test n = option_map_or test (slice_get slices n) false

-- the checksums of bytes: their MD5 and their CRC-32
abbrev pub sums_of : List ℕ → Hash16 × ℕ
sums_of bytes = (record { 0 = md5 bytes }, crc_of bytes)

-- the checksums of the slice are known, and they are these
abbrev pub has_sums : Hash16 × ℕ → SetSlice → Bool
has_sums sums slice =
    option_map_or (λ known. known.1 == sums.1 && bytes_eq known.0.0 sums.0.0) slice.sums false

-- the checksums of the slice are known, and its CRC-32 is this one
abbrev pub has_known_crc : ℕ → SetSlice → Bool
has_known_crc crc slice = option_map_or (λ known. known.1 == crc) slice.sums false

-- some slice has this CRC-32
abbrev pub set_has_crc : SliceSet → ℕ → Bool
set_has_crc set crc = list_any (has_known_crc crc) set.slices

-- the checksums of the slice are known, and its unpadded length is at most `left`
abbrev pub has_fit_of : ℕ → SetSlice → Bool
has_fit_of left slice = option_map_or (λ known. nat_le slice.length left) slice.sums false

-- some slice has known checksums and an unpadded length of at most `left`
abbrev pub set_has_fit : SliceSet → ℕ → Bool
set_has_fit set left = list_any (has_fit_of left) set.slices

-- the checksums of the slice are known
abbrev pub has_known_sums : SetSlice → Bool
has_known_sums slice = is_some slice.sums

-- the slice's unpadded length is `own`, and it passes a test
abbrev pub has_own : ℕ → (SetSlice → Bool) → SetSlice → Bool
has_own own test slice = slice.length == own && test slice

-- some slice of this unpadded length has this CRC-32
abbrev pub set_has_own_crc : SliceSet → ℕ → ℕ → Bool
set_has_own_crc set crc own = list_any (has_own own (has_known_crc crc)) set.slices

-- the short-slice lengths of a set, in increasing order
abbrev pub tails_of : SliceSet → List ℕ
tails_of set =
    filter (λ own. list_any (has_own own has_known_sums) set.slices)
    (range_with_len 1 (set.slice_size - 1))
