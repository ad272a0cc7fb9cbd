-- The nibbles (groups of four bits) of registers, and tables with an entry for each nibble.
use Rattle.std.specs.Prelude.{◌≡◌, ℕ, ◌*◌, ◌/◌, ◌%◌, ◌^◌, ◌<◌, List, [], bit_xor, get_or, slice_index}
use Rattle.parwindow.specs.Crc32.{crc_steps}

-- list q has nibble q of the inverse of each register; nibble 0 is the lowest
abbrev pub AreNibbles : List ℕ → List (List ℕ) → Type 0
AreNibbles registers nibbles =
    (q i : ℕ) → q < 8 → i < 528
    → slice_index (get_or nibbles q []) i
    ≡ bit_xor (slice_index registers i) 0xFFFFFFFF / 2 ^ (4 * q) % 16

-- entry 16 * q + v is the register after n zero bytes, if nibble q of it was v
-- and all others were 0
abbrev pub IsNibbleTable : List ℕ → ℕ → Type 0
IsNibbleTable words n =
    (i : ℕ) → i < 128 → slice_index words i ≡ crc_steps (8 * n) (i % 16 * 2 ^ (4 * (i / 16)))

-- each entry of the table is the low byte of the word at the same index
abbrev pub AreLowBytes : List ℕ → List ℕ → Type 0
AreLowBytes words table =
    (i : ℕ) → i < 128 → slice_index table i ≡ slice_index words i % 256
