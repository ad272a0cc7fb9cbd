-- The list in which an index looks up whether some slice has a CRC-32 and fits
-- into the rest of a file.
use Rattle.std.specs.Prelude.{◌≡◌, ℕ, ◌==◌, ◌&&◌, nat_le, Bool, List}
use Rattle.std.specs.declared.cmp.Ordering.{Ordering}
use Rattle.std.specs.Ordering.{nat_cmp, then_cmp, on}
use Rattle.std.specs.List.{list_any}
use Rattle.parset.specs.declared.recovery_set.SetSlice.{SetSlice}
use Rattle.parwindow.specs.Index.{has_known_crc, has_own}
use Rattle.parwindow.specs.Missing.{has_fit_crc_of}
use Rattle.parwindow.specs.declared.slices.own_lengths.OwnLength.{OwnLength}

-- the items are ordered by CRC-32, then by length
abbrev pub length_cmp : OwnLength → OwnLength → Ordering
length_cmp =
    then_cmp (on (λ (own : OwnLength). own.crc) nat_cmp)
    (on (λ (own : OwnLength). own.length) nat_cmp)

-- the item has this CRC-32, and a length of at most `left`
abbrev pub is_within : ℕ → ℕ → OwnLength → Bool
is_within crc left own = own.crc == crc && nat_le own.length left

-- some slice with known checksums has a CRC-32 and a length of at most `left` exactly if
-- one of these items has
abbrev pub AreLengthsOf : List SetSlice → List OwnLength → Type 0
AreLengthsOf slices own =
    (crc left : ℕ) → list_any (is_within crc left) own ≡ list_any (has_fit_crc_of crc left) slices

-- the item has this CRC-32 and this length
abbrev pub is_exactly : ℕ → ℕ → OwnLength → Bool
is_exactly crc length own = own.length == length && own.crc == crc

-- some slice with known checksums has a CRC-32 and a length exactly if one of these items has both
abbrev pub AreExactlyOf : List SetSlice → List OwnLength → Type 0
AreExactlyOf slices own =
    (crc length : ℕ)
    → list_any (is_exactly crc length) own ≡ list_any (has_own length (has_known_crc crc)) slices
