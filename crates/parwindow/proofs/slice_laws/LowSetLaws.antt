-- The sets of low bytes of the registers of short slices.
use Rattle.std.proofs.Common.{ℕ, ◌+◌, ◌<◌, List, take, get_or, arith}
use Rattle.parset.specs.declared.recovery_set.SetSlice.{SetSlice}
use Rattle.parwindow.specs.LowSets.{HasLow, HaveLows, set_of}
use Rattle.parwindow.specs.declared.slices.low_sets.LowSet.{LowSet}
use Rattle.parwindow.proofs.slice_laws.ShortSliceLaws.{HoldsOfShort}

set_of-lt : (own : ℕ) → set_of own < 1024
set_of-lt own = omega arith

-- the set of the length `own` has this register
abbrev pub LowsHave : List LowSet → ℕ → ℕ → Type 0
LowsHave sets own register = (set : LowSet) → HasLow (get_or sets (set_of own) set) register

-- the sets after the register of one slice more is put in
module _ (size : ℕ) (slices : List SetSlice) (i : ℕ) (before after : List LowSet)
    (have : HaveLows size (take i slices) before) where
  pub held_lows : HoldsOfShort size (take i slices) (LowsHave before)
  held_lows own register shorter small any set = have own register set shorter small any

  pub kept_lows : ((k other : ℕ) (set : LowSet) → k < 1024 → HasLow (get_or before k set) other
      → HasLow (get_or after k set) other)
      → (own register : ℕ) → LowsHave before own register → LowsHave after own register
  kept_lows keeps own register was set = keeps (set_of own) register set (set_of-lt own) (was set)

  pub have_lows : HoldsOfShort size (take (i + 1) slices) (LowsHave after)
      → HaveLows size (take (i + 1) slices) after
  have_lows holds own register set shorter small any = holds own register shorter small any set
