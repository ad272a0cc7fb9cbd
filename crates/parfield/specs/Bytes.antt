-- Numbers in bytes (PAR2 2.0: all integers are little-endian).
use Rattle.std.specs.Prelude.{ℕ, ◌+◌, ◌*◌, List, [], ◌∷◌}

-- the number that bytes make as digits in base 256, the lowest digit first
unfoldable pub le_value : List ℕ → ℕ
le_value [] = 0
le_value (byte ∷ bytes) = byte + 256 * le_value bytes
