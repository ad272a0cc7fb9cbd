-- The work of a survey at one place: the slices that it finds, and the digests (MD5s) that it
-- takes.
use Rattle.std.specs.Prelude.{◌≡◌, ℕ, ◌+◌, ◌||◌, ◌<◌, Bool, false, List, length, slice_index_or, Option, None, IfSome}
use Rattle.parwindow.specs.Missing.{has_unfound, has_fit_crc_of, found_at}
use Rattle.parwindow.specs.Window.{WindowState}
use Rattle.parfind.specs.Sought.{Sought, is_compared, compared_lengths, nth_compared}

-- a slice is found now exactly if it was found before or its number passes a test
abbrev pub FindsMore : (ℕ → Bool) → List Bool → List Bool → Type 0
FindsMore test was now = (n : ℕ) → found_at now n ≡ (found_at was n || test n)

-- `count` digests are taken of the window, which doesn't change otherwise
abbrev pub TakesDigests : ℕ → WindowState → WindowState → Type 0
TakesDigests count old new = new ≡ record old { digests = old.digests + count }

-- each slice that has this CRC-32 and this compared length, and that fits into what is left of the
-- file, is found
abbrev pub IsExhausted : Sought → List Bool → ℕ → ℕ → ℕ → Type 0
IsExhausted sought found left own crc =
    has_unfound sought.set.slices found (is_compared sought own (has_fit_crc_of crc left)) ≡ false

-- each CRC-32 that is noted for a compared length is exhausted: all such slices are found
abbrev pub AreExhausted : Sought → List Bool → ℕ → List (Option ℕ) → Type 0
AreExhausted sought found left crcs =
    (k : ℕ) → k < length (compared_lengths sought)
    → IfSome (slice_index_or crcs k None)
    (IsExhausted sought found left (nth_compared sought k))
