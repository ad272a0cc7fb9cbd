-- The slices that have a CRC-32 and fit into the rest of a file, and which of them aren't found;
-- and the set of slices in which the ones that are found have no checksums.
use Rattle.std.specs.Prelude.{ℕ, ◌&&◌, nat_le, not, Bool, true, false, None, List, length, map, zip, slice_index_or}
use Rattle.std.specs.List.{list_any, range_with_len}
use Rattle.parset.specs.declared.recovery_set.SetSlice.{SetSlice}
use Rattle.parwindow.specs.Index.{SliceSet, slice_passes, has_known_crc, has_own}

-- the checksums of the slice are known, its CRC-32 is this one, and its unpadded
-- length is at most `left`
abbrev pub has_fit_crc_of : ℕ → ℕ → SetSlice → Bool
has_fit_crc_of crc left slice = has_known_crc crc slice && nat_le slice.length left

-- some slice has this CRC-32 and an unpadded length of at most `left`
abbrev pub set_has_fit_crc : SliceSet → ℕ → ℕ → Bool
set_has_fit_crc set crc left = list_any (has_fit_crc_of crc left) set.slices

-- slice n is found, according to the flags of all slices
abbrev pub found_at : List Bool → ℕ → Bool
found_at found n = slice_index_or found n false

-- some slice passes a test and isn't found
abbrev pub has_unfound : List SetSlice → List Bool → (SetSlice → Bool) → Bool
has_unfound slices found test =
    list_any (λ n. slice_passes slices test n && not (found_at found n))
    (range_with_len 0 (length slices))

-- some slice that isn't found has this CRC-32 and an unpadded length of at most `left`
abbrev pub set_has_missing : SliceSet → List Bool → ℕ → ℕ → Bool
set_has_missing set found crc left = has_unfound set.slices found (has_fit_crc_of crc left)

-- the same for slices whose unpadded length is `own`
abbrev pub set_has_own_missing : SliceSet → List Bool → ℕ → ℕ → ℕ → Bool
set_has_own_missing set found crc own left =
    has_unfound set.slices found (has_own own (has_fit_crc_of crc left))

-- the slice without its checksums if it is found, else the slice
abbrev pub unless_found : SetSlice × Bool → SetSlice
unless_found (slice, true) = record slice { sums = None }
unless_found (slice, false) = slice

-- the set in which the slices that are found have no checksums, so that nothing looks for them.
-- Each slice keeps its number and its unpadded length. There is a flag for each slice
abbrev pub missing_set : SliceSet → List Bool → SliceSet
missing_set set found = record set { slices = map unless_found (zip set.slices found) }
