-- Pushing many bytes into a full window at once, up to the CRC-32 of a slice.
use Rattle.std.specs.Prelude.{◌≡◌, ℕ, ◌+◌, ◌<◌, ◌≤◌, ◌||◌, Bool, List, [], length, take, drop, ◌++◌, slice_index, IsTrue}
use Rattle.std.specs.List.{list_any}
use Rattle.parwindow.specs.Crc32.{crc_of}
use Rattle.parwindow.specs.Index.{SliceSet, set_has_crc, set_has_own_crc}
use Rattle.parwindow.specs.Window.{WindowState, content_after, tail_content}

-- the content of a full window after k of the bytes were pushed: k bytes have left at the front
abbrev pub pushed_content : List ℕ → List ℕ → ℕ → List ℕ
pushed_content content bytes k = drop k (content ++ take k bytes)

-- pushing k bytes at once gives the same content as k pushes one after another
pub record PushesOneByOne : Type 0 where
  pub none : (content bytes : List ℕ) → pushed_content content bytes 0 ≡ content
  pub one_more : (w : WindowState) (bytes : List ℕ) (k : ℕ) → length w.content ≡ w.capacity
      → k < length bytes
      → content_after (record w { content = pushed_content w.content bytes k }) (slice_index bytes k)
      ≡ pushed_content w.content bytes (k + 1)

-- a full window after k of the bytes were pushed
abbrev pub pushed_window : WindowState → List ℕ → ℕ → WindowState
pushed_window w bytes k = record w { content = pushed_content w.content bytes k }

-- for some short-slice length of the window, a slice of that length has the CRC-32 of the window's
-- first bytes and zeros
abbrev pub has_tail_slice : SliceSet → WindowState → Bool
has_tail_slice set w =
    list_any (λ own. set_has_own_crc set (crc_of (tail_content w own)) own) w.tails

-- the window is at a slice: the same holds, or some slice has the CRC-32 of the whole content
abbrev pub is_at_slice : SliceSet → WindowState → Bool
is_at_slice set w = has_tail_slice set w || set_has_crc set (crc_of w.content)

-- n of the bytes were pushed, up to the first one after which the window is at a slice
pub record PushesUntil (set : SliceSet) (w : WindowState) (bytes : List ℕ) (n : ℕ) : Type 0 where
  pub within : n ≤ length bytes
  -- after no earlier byte it is at a slice
  pub before : (k : ℕ) → 0 < k → k < n → ¬ IsTrue (is_at_slice set (pushed_window w bytes k))
  -- if not all bytes were pushed, it is at a slice after the last one that was
  pub stops : n < length bytes → (0 < n) × IsTrue (is_at_slice set (pushed_window w bytes n))

-- a window without tails is at a slice exactly if some slice has the CRC-32 of its content
abbrev pub NoTails : Type 0
NoTails =
    (set : SliceSet) (w : WindowState) → w.tails ≡ []
    → is_at_slice set w ≡ set_has_crc set (crc_of w.content)
