-- Sets of bits, in which 20 bits of a key choose a bit.
use Rattle.std.specs.Prelude.{◌≡◌, ℕ, ◌/◌, List, slice_index, bit_and}
use Rattle.std.specs.Int.{bit_at}

-- how many words of 64 bits a set has
abbrev pub word_count : ℕ
word_count = 16_384

-- the bit of a key is set: the top 14 bits of the key choose the word, and its low 6
-- bits the bit of the word
abbrev pub HasBit : List ℕ → ℕ → Type 0
HasBit words key = bit_at (slice_index words (key / 262144)) (bit_and key 63) ≡ 1
