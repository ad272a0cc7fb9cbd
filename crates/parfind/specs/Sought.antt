-- The slices that are searched for, and how many bytes of a window are compared for each.
use Rattle.std.specs.Prelude.{◌≡◌, ℕ, ◌≤◌, ◌==◌, ◌&&◌, Bool, List, [], ◌∷◌, ◌++◌, All, length, filter, slice_index, IsTrue}
use Rattle.std.specs.List.{list_any}
use Rattle.parset.specs.declared.recovery_set.SetSlice.{SetSlice}
use Rattle.parwindow.specs.Crc32.{crc_of}
use Rattle.parwindow.specs.Index.{SliceSet, has_known_crc, tails_of}
use Rattle.parwindow.specs.Window.{WindowState, tail_limit, zero_filled}
use Rattle.parfind.specs.declared.tracks.mode.Mode.{Mode}
use Rattle.parfind.specs.declared.tracks.mode.Mode.TheVariants.{Plain, Tails}

-- the set whose slices are looked for, and the mode in which they are compared
pub record Sought : Type 0 where
  pub set : SliceSet
  pub mode : Mode

abbrev pub sought_of : SliceSet → Mode → Sought
sought_of set mode = record { set = set; mode = mode }

-- how many bytes of a window are compared for a slice, before the zeros that fill it up: the whole
-- window in the plain mode, and the slice's unpadded length with tails
abbrev pub compared_length : Mode → ℕ → SetSlice → ℕ
compared_length Plain size slice = size
compared_length Tails size slice = slice.length

-- the first `own` bytes of a window, filled up with zeros to the window's length
abbrev pub compared_bytes : List ℕ → ℕ → List ℕ
compared_bytes window own = zero_filled (length window) own window

-- the bytes of a window that are compared for a slice, filled up with zeros
abbrev pub compared_window : Mode → List ℕ → SetSlice → List ℕ
compared_window mode window slice = compared_bytes window (compared_length mode (length window) slice)

-- whether `own` bytes of a window are compared for a slice, and it passes a test
abbrev pub is_compared : Sought → ℕ → (SetSlice → Bool) → SetSlice → Bool
is_compared sought own test slice =
    compared_length sought.mode sought.set.slice_size slice == own && test slice

-- the compared lengths below the slice size: none in the plain mode; with tails, the unpadded
-- lengths of the short slices whose checksums are known
abbrev pub shorter_lengths : Mode → SliceSet → List ℕ
shorter_lengths Plain set = []
shorter_lengths Tails set = tails_of set

-- all compared lengths: the shorter ones, and the slice size
abbrev pub compared_lengths : Sought → List ℕ
compared_lengths sought = shorter_lengths sought.mode sought.set ++ sought.set.slice_size ∷ []

-- there are no more than 256 shorter lengths, which a window may have
abbrev pub HasFewTails : Sought → Type 0
HasFewTails sought = length (shorter_lengths sought.mode sought.set) ≤ tail_limit

-- compared length number k, from the least on, counted from 0; the last is the slice size
abbrev pub nth_compared : Sought → ℕ → ℕ
nth_compared sought k = slice_index (compared_lengths sought) k

-- whether the first `own` bytes of the window, filled up with zeros, have the CRC-32 of a slice
-- whose compared length is `own` and whose checksums are known
abbrev pub has_compared_crc : Sought → List ℕ → ℕ → Bool
has_compared_crc sought window own =
    list_any (is_compared sought own (has_known_crc (crc_of (compared_bytes window own))))
    sought.set.slices

-- at how many compared lengths the window has the CRC-32 of a slice of that compared length
abbrev pub count_compared : Sought → List ℕ → ℕ
count_compared sought window = length (filter (has_compared_crc sought window) (compared_lengths sought))

-- the compared bytes of the window have the CRC-32 of no slice whose checksums are known
abbrev pub HasNoComparedCrc : Sought → List ℕ → Type 0
HasNoComparedCrc sought window =
    All (λ slice. ¬ IsTrue (has_known_crc (crc_of (compared_window sought.mode window slice)) slice))
    sought.set.slices

-- the window has the size of the slices, with tails also their shorter lengths, and these are at
-- most 256
pub record IsWindowFor (sought : Sought) (window : WindowState) : Type 0 where
  pub sized : window.capacity ≡ sought.set.slice_size
  pub tails_are : sought.mode ≡ Tails → window.tails ≡ tails_of sought.set
  pub few : HasFewTails sought
