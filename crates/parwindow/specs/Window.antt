-- A window of the last bytes of a stream, and the window of a file at an offset.
use Rattle.std.specs.Prelude.{◌≡◌, ℕ, ◌-◌, ◌<◌, ◌==◌, List, [], ◌∷◌, ◌++◌, All, length, take, drop, replicate, Option, None, slice_get, if◌then◌else◌}
use Rattle.std.specs.List.Sorted.{IsStrictlyIncreasing}

-- a window, as contracts see it
pub record WindowState : Type 0 where
  -- the bytes of the window, the oldest first
  pub content : List ℕ
  -- how many bytes it may have
  pub capacity : ℕ
  -- the short-slice lengths that it looks for
  pub tails : List ℕ
  -- how many digests of it were computed
  pub digests : ℕ

-- a window without bytes
abbrev pub empty_window : ℕ → List ℕ → WindowState
empty_window size tails = record { content = []; capacity = size; tails = tails; digests = 0 }

-- the most short-slice lengths that a window may look for
abbrev pub tail_limit : ℕ
tail_limit = 256

-- these lengths are in increasing order, and each is from 1 to below the size of the window
pub record AreTails (size : ℕ) (tails : List ℕ) : Type 0 where
  pub rising : IsStrictlyIncreasing tails
  pub within : All (λ own. (0 < own) × (own < size)) tails

-- the content after a byte is pushed: the byte is appended, and if the window was full,
-- the first one leaves
abbrev pub content_after : WindowState → ℕ → List ℕ
content_after w byte =
    if length w.content == w.capacity then drop 1 (w.content ++ byte ∷ [])
    else w.content ++ byte ∷ []

-- the byte that falls out when one is pushed: the first one if the window was full, else none
abbrev pub fallen_byte : WindowState → Option ℕ
fallen_byte w = if length w.content == w.capacity then slice_get w.content 0 else None

-- the first `size` bytes of the file from the offset on, followed by zeros if the file ends before
abbrev pub window_at : ℕ → List ℕ → ℕ → List ℕ
window_at size file offset = take size (drop offset file ++ replicate size 0)

-- the first `own` bytes, followed by zeros up to `size`
abbrev pub zero_filled : ℕ → ℕ → List ℕ → List ℕ
zero_filled size own bytes = take own bytes ++ replicate (size - own) 0

-- the first `own` bytes of a window, followed by zeros up to its capacity
abbrev pub tail_content : WindowState → ℕ → List ℕ
tail_content w own = zero_filled w.capacity own w.content

-- bytes that have the size already stay as they are, and so do bytes in which zeros replace zeros
pub record ZerosFill : Type 0 where
  pub whole : (size : ℕ) (bytes : List ℕ) → length bytes ≡ size
      → zero_filled size size bytes ≡ bytes
  pub zeros : (size own : ℕ) (bytes : List ℕ) → length bytes ≡ size
      → drop own bytes ≡ replicate (size - own) 0 → zero_filled size own bytes ≡ bytes
