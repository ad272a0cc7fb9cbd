-- The register of the tail's bytes at each offset of a stream, computed from a running register.
use Rattle.std.specs.Prelude.{◌≡◌, ℕ, ◌+◌, ◌*◌, ◌<◌, ◌++◌, List, bit_xor, length, slice_index}
use Rattle.parwindow.specs.Crc32.{crc_steps}
use Rattle.parwindow.specs.declared.tails.places.RegisterStream.{RegisterStream}

-- all running registers, in one list
abbrev pub registers_of : RegisterStream → List ℕ
registers_of s = (s.front.now ++ s.back.now) ++ s.come.now

-- `fronts` are the running registers after the first one
abbrev pub AreFronts : List ℕ → List ℕ → Type 0
AreFronts registers fronts =
    (i : ℕ) → i < 528 → 1 + i < length registers
    → slice_index fronts i ≡ slice_index registers (1 + i)

-- the register of `own` bytes, computed from the running registers before and after them
abbrev pub ended_register : ℕ → List ℕ → List ℕ → ℕ → ℕ
ended_register own fronts ends i =
    bit_xor (slice_index ends i)
    (crc_steps (8 * own) (bit_xor (slice_index fronts i) 0xFFFFFFFF))
