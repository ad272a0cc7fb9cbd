-- The register of a full window as bytes are pushed into it, and the point at which a roll stops
-- (CRC-32, reflected polynomial EDB88320).
use Rattle.std.specs.Prelude.{◌≡◌, ℕ, zero, suc, ◌+◌, ◌*◌, ◌<◌, ◌≤◌, List, slice_index, Option, None, Some, true, false, bit_xor, IsTrue}
use Rattle.parwindow.specs.Crc32.{register_after, removal_of}
use Rattle.parwindow.specs.Index.{SliceSet, set_has_crc}
use Rattle.parwindow.specs.declared.rolling.roll.Roll.{Roll}

-- the register of n + 1 bytes, after the first one leaves and another one comes
unfoldable pub rolled_register : ℕ → ℕ → ℕ → ℕ → ℕ
rolled_register n register first last = register_after (bit_xor register (removal_of first n)) last

-- a register with two bytes xored into it: the first one into its low byte
abbrev pub with_two : ℕ → ℕ → ℕ → ℕ
with_two register come next = bit_xor register (come + 256 * next)

-- the register after a byte comes; if one falls out, it is the first one of n + 1 bytes
abbrev pub pushed_register : ℕ → ℕ → Option ℕ → ℕ → ℕ
pushed_register n register None last = register_after register last
pushed_register n register (Some first) last = rolled_register n register first last

-- the register after the first k bytes of `gone` have left and the first k
-- bytes of `come` have come
unfoldable pub rolled_over : ℕ → ℕ → List ℕ → List ℕ → ℕ → ℕ
rolled_over n register gone come zero = register
rolled_over n register gone come (suc k) =
    rolled_register n (rolled_over n register gone come k)
    (slice_index gone k) (slice_index come k)

-- the register belongs to a slice: with its bits inverted, it is the CRC-32 of one
abbrev pub HasRegister : SliceSet → ℕ → Type 0
HasRegister set register = IsTrue (set_has_crc set (bit_xor register 0xFFFFFFFF))

-- the roll went from register to register, at most n times, up to the first register after the
-- start that has a property
pub record StopsAt (Has : ℕ → Type 0) (at : ℕ → ℕ) (n : ℕ) (roll : Roll) : Type 0 where
  pub within : roll.count ≤ n
  pub register : roll.register ≡ at roll.count
  -- no earlier register has the property
  pub before : (k : ℕ) → 0 < k → k < roll.count → ¬ Has (at k)
  -- the roll stopped here because the register has the property
  pub found : roll.hit ≡ true → (0 < roll.count) × Has (at roll.count)
  -- or it went to the end, and the register there doesn't have the property
  pub ended : roll.hit ≡ false → (roll.count ≡ n) × (0 < n → ¬ Has (at n))
