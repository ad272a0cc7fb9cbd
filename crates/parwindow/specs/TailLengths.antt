-- How the short-slice lengths of a set are collected.
use Rattle.std.specs.Prelude.{◌≡◌, ℕ, ◌==◌, ◌&&◌, nat_lt, Bool, List}
use Rattle.std.specs.List.{list_any}
use Rattle.parset.specs.declared.recovery_set.SetSlice.{SetSlice}
use Rattle.parwindow.specs.Index.{SliceSet, has_known_sums, has_own, tails_of}
use Rattle.parwindow.specs.Window.{AreTails}

-- the checksums of the slice are known, and its unpadded length is below the slice size
abbrev pub is_short : ℕ → SetSlice → Bool
is_short size slice = has_known_sums slice && nat_lt slice.length size

-- a length is in the list exactly if a slice with known checksums has it and it is
-- below the slice size
abbrev pub AreShortOf : ℕ → List SetSlice → List ℕ → Type 0
AreShortOf size slices lengths =
    (own : ℕ) → list_any (λ x. x == own) lengths ≡ list_any (has_own own (is_short size)) slices

-- the short-slice lengths are in increasing order, and each is from 1 to below the slice size
abbrev pub TailsFit : Type 0
TailsFit = (set : SliceSet) → AreTails set.slice_size (tails_of set)
