-- Sets of the low bytes of registers: the registers of short slices before their padding.
use Rattle.std.specs.Prelude.{◌≡◌, ℕ, ◌-◌, ◌*◌, ◌/◌, ◌%◌, ◌^◌, ◌<◌, List, get_or, slice_index, bit_and, IsTrue}
use Rattle.std.specs.Int.{bit_at}
use Rattle.std.specs.List.{list_any}
use Rattle.parset.specs.declared.recovery_set.SetSlice.{SetSlice}
use Rattle.parwindow.specs.FilterBits.{zeros_crc}
use Rattle.parwindow.specs.Index.{has_known_crc, has_own}
use Rattle.parwindow.specs.declared.slices.low_sets.LowSet.{LowSet}

-- the set has the low byte of a register: both nibbles (halves) of the low byte have the bit that
-- the second byte chooses
abbrev pub HasLow : LowSet → ℕ → Type 0
HasLow set register =
    (bit_at (slice_index set.low (bit_and register 15)) (bit_and (register / 2 ^ 8) 7) ≡ 1)
    × (bit_at (slice_index set.high (bit_and (register / 2 ^ 4) 15))
    (bit_and (register / 2 ^ 8) 7) ≡ 1)

-- the number of the set that a length uses, of 1,024 sets
abbrev pub set_of : ℕ → ℕ
set_of own = own * 0x9E3779B1 % 2 ^ 32 / 2 ^ 22

-- the set of a length has each register that zeros up to the slice size turn into the CRC-32 of a
-- slice of this unpadded length
abbrev pub HaveLows : ℕ → List SetSlice → List LowSet → Type 0
HaveLows size slices sets =
    (own register : ℕ) (set : LowSet) → own < size → register < 2 ^ 32
    → IsTrue (list_any (has_own own (has_known_crc (zeros_crc (size - own) register))) slices)
    → HasLow (get_or sets (set_of own) set) register
