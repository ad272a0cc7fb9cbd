-- Facts about the tails of a window: its short-slice lengths with their registers.
use Rattle.std.specs.Prelude.{◌≡◌, ℕ, ◌+◌, ◌<◌, Bool, List, map, take}
use Rattle.std.specs.List.{list_any}
use Rattle.parwindow.specs.Crc32.{crc_of, register_of}
use Rattle.parwindow.specs.Index.{SliceSet, set_has_own_crc}
use Rattle.parwindow.specs.Window.{zero_filled}
use Rattle.parwindow.specs.declared.tails.tail.Tail.{Tail}

-- the lengths of the tails
abbrev pub tail_lengths_of : List Tail → List ℕ
tail_lengths_of tails = map (λ (tail : Tail). tail.length) tails

-- a slice of the unpadded length `own` has the CRC-32 of the first `own` bytes of the content and
-- of zeros up to the size
abbrev pub is_tail_slice : SliceSet → ℕ → List ℕ → ℕ → Bool
is_tail_slice set size content own =
    set_has_own_crc set (crc_of (zero_filled size own content)) own

-- the same for some of these lengths
abbrev pub some_tail_slice : SliceSet → ℕ → List ℕ → List ℕ → Bool
some_tail_slice set size content lengths = list_any (is_tail_slice set size content) lengths

-- the tail is right for a window of this size and content: its length is below the size, its zeros
-- fill up the rest, and its register is the register of the first bytes up to its length (of all
-- bytes if there are fewer)
pub record IsTail (size : ℕ) (content : List ℕ) (tail : Tail) : Type 0 where
  pub some : 0 < tail.length
  pub shorter : tail.length < size
  pub filled : tail.length + tail.zeros.len ≡ size
  pub rolled : tail.register ≡ register_of (take tail.length content)
