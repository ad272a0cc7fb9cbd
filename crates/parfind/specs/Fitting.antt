-- The slices that may be seen at a place, given how many bytes of the file are left there.
use Rattle.std.specs.Prelude.{ℕ, ◌&&◌, nat_le, Bool, List}
use Rattle.parfield.specs.declared.hash16.Hash16.{Hash16}
use Rattle.parset.specs.declared.recovery_set.SetSlice.{SetSlice}
use Rattle.parwindow.specs.Index.{has_sums, sums_of}
use Rattle.parfind.specs.Sought.{Sought, is_compared, compared_bytes, compared_window}
use Rattle.parfind.specs.declared.tracks.mode.Mode.{Mode}

-- the slice has these checksums, and its unpadded length fits into the `left` bytes of the file
abbrev pub is_fitting_match : Hash16 × ℕ → ℕ → SetSlice → Bool
is_fitting_match sums left slice = nat_le slice.length left && has_sums sums slice

-- the slice has the checksums of the window's bytes that are compared for it, and fits into the
-- `left` bytes
abbrev pub is_fitting_compared : Mode → List ℕ → ℕ → SetSlice → Bool
is_fitting_compared mode window left slice =
    is_fitting_match (sums_of (compared_window mode window slice)) left slice

-- `own` bytes of the window are compared for the slice, it has their checksums, and it fits into
-- the `left` bytes
abbrev pub is_fitting_of : Sought → List ℕ → ℕ → ℕ → SetSlice → Bool
is_fitting_of sought window left own =
    is_compared sought own
    (is_fitting_match (sums_of (compared_bytes window own)) left)
