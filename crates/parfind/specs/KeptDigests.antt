-- The digests (MD5s) of a window at one place, which are kept until it moves: one for each compared
-- length.
use Rattle.std.specs.Prelude.{◌≡◌, ℕ, ◌+◌, ◌≤◌, ◌<◌, List, length, filter, is_some, min, slice_index_or, Option, None, Some, IfSome, IsTrue}
use Rattle.parfield.specs.Md5.{md5}
use Rattle.parfield.specs.declared.hash16.Hash16.{Hash16}
use Rattle.parwindow.specs.Window.{WindowState, zero_filled}
use Rattle.parfind.specs.Sought.{Sought, IsWindowFor, has_compared_crc, compared_lengths, nth_compared}

-- how many digests are kept
abbrev pub kept_count : List (Option Hash16) → ℕ
kept_count kept = length (filter is_some kept)

-- `digest` is the MD5 of the first `own` bytes of a full window, filled up with zeros to its
-- capacity; and some slice with this compared length has their CRC-32
pub record IsDigestOf (sought : Sought) (w : WindowState) (own : ℕ) (digest : Hash16) : Type 0 where
  pub full : length w.content ≡ w.capacity
  pub digest_is : digest.0 ≡ md5 (zero_filled w.capacity own w.content)
  pub marked : IsTrue (has_compared_crc sought w.content own)

-- there is an entry for each compared length, and each digest that is kept is one of this window
pub record Keeps (sought : Sought) (w : WindowState) (kept : List (Option Hash16)) : Type 0 where
  pub room : length kept ≡ length (compared_lengths sought)
  pub each : (k : ℕ) → k < length kept
      → IfSome (slice_index_or kept k None)
      (IsDigestOf sought w (nth_compared sought k))

-- the window changes only in its count of digests, and each digest that is taken is kept
pub record KeepsDigests
    (v : WindowState) (was : List (Option Hash16)) (w : WindowState) (now : List (Option Hash16))
    : Type 0 where
  pub window_is : w ≡ record v { digests = w.digests }
  pub counted : w.digests + kept_count was ≡ v.digests + kept_count now
  pub kept : kept_count was ≤ kept_count now

-- the window is made for what is searched for, and is full
pub record IsFullFor (sought : Sought) (w : WindowState) : Type 0 where
  pub made : IsWindowFor sought w
  pub full : length w.content ≡ w.capacity

-- the lesser of two numbers, or the only one that is given
abbrev pub lesser_of : Option ℕ → Option ℕ → Option ℕ
lesser_of None b = b
lesser_of (Some a) None = Some a
lesser_of (Some a) (Some b) = Some (min a b)
