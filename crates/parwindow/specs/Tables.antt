-- The tables by which a register rolls.
use Rattle.std.specs.Prelude.{◌≡◌, ℕ, ◌*◌, ◌^◌, ◌<◌, List, slice_index}
use Rattle.parwindow.specs.Crc32.{crc_steps, removal_of}

-- entry x has the bits of the register that differ because of a first byte x, after n
-- bytes have followed it
abbrev pub IsRemovalTable : List ℕ → ℕ → Type 0
IsRemovalTable table n = (x : ℕ) → x < 256 → slice_index table x ≡ removal_of x n

-- entry x is the register x after this number of steps
abbrev pub IsStepTable : List ℕ → ℕ → Type 0
IsStepTable table steps = (x : ℕ) → x < 256 → slice_index table x ≡ crc_steps steps x

-- column i is the register after n zero bytes, if only bit i of it was set
abbrev pub MapsBits : List ℕ → ℕ → Type 0
MapsBits columns n = (i : ℕ) → i < 32 → slice_index columns i ≡ crc_steps (8 * n) (2 ^ i)
