-- The bits of a filter, which for nearly all registers show at once that no slice has them.
use Rattle.std.specs.Prelude.{ℕ, ◌-◌, ◌*◌, ◌%◌, ◌^◌, ◌<◌, List, bit_xor, IsTrue}
use Rattle.std.specs.List.{list_any}
use Rattle.parset.specs.declared.recovery_set.SetSlice.{SetSlice}
use Rattle.parwindow.specs.Crc32.{crc_steps}
use Rattle.parwindow.specs.Index.{has_known_crc, has_own}
use Rattle.parwindow.specs.KeyBits.{HasBit}
use Rattle.parwindow.specs.declared.slices.bloom_filter.BloomFilter.{BloomFilter}

-- the key of a register in the second set of bits: a product whose upper bits depend on all
-- bits of the register
abbrev pub scattered_key : ℕ → ℕ
scattered_key register = register * 0x9E3779B1 % 2 ^ 32

-- a register's three bits are set: one for itself, one for its scattered key, and one for the
-- key scattered once more
abbrev pub MayHave : BloomFilter → ℕ → Type 0
MayHave filter register =
    HasBit filter.plain.words.items register
    × HasBit filter.scattered.words.items (scattered_key register)
    × HasBit filter.scattered.words.items (scattered_key (scattered_key register))

-- for each CRC-32 of a slice, the bits of its register are set
abbrev pub HasSlices : List SetSlice → BloomFilter → Type 0
HasSlices slices filter =
    (crc : ℕ) → IsTrue (list_any (has_known_crc crc) slices)
    → MayHave filter (bit_xor crc 0xFFFFFFFF)

-- the CRC-32 of bytes that have this register, followed by `zeros` zero bytes
abbrev pub zeros_crc : ℕ → ℕ → ℕ
zeros_crc zeros register = bit_xor (crc_steps (8 * zeros) register) 0xFFFFFFFF

-- the bits of each register are set that zeros up to the slice size turn into the
-- CRC-32 of a short slice
abbrev pub HasTails : ℕ → List SetSlice → BloomFilter → Type 0
HasTails size slices filter =
    (own register : ℕ) → own < size → register < 2 ^ 32
    → IsTrue (list_any (has_own own (has_known_crc (zeros_crc (size - own) register))) slices)
    → MayHave filter register
