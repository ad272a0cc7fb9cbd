-- The registers of tails while bytes are pushed into a full window. A tail is a short-slice length
-- with the register of that many first bytes of the window.
use Rattle.std.specs.Prelude.{◌≡◌, ℕ, ◌-◌, ◌<◌, ◌≤◌, ◌++◌, Bool, List, length, take, IsTrue, if◌then◌else◌}
use Rattle.parwindow.specs.Crc32.{register_of}
use Rattle.parwindow.specs.FilterBits.{zeros_crc}
use Rattle.parwindow.specs.Index.{SliceSet, set_has_own_crc}
use Rattle.parwindow.specs.Until.{is_at_slice, pushed_content, pushed_window}
use Rattle.parwindow.specs.Window.{WindowState}
use Rattle.parwindow.specs.declared.rolling.roll.Roll.{Roll}
use Rattle.parwindow.specs.declared.tails.stream.Stream.{Stream}
use Rattle.parwindow.specs.declared.tails.tail.Tail.{Tail}

-- how many pushes a roll passed: all of them, or all but the last one if it stopped at a
-- register that it looks for
abbrev pub passed_of : Roll → ℕ
passed_of roll = if roll.hit then roll.count - 1 else roll.count

-- the content of a full window, whose bytes are in two parts
abbrev pub window_bytes : Stream → List ℕ
window_bytes s = s.front.now ++ s.back.now

-- the content of a full window, followed by the bytes that are pushed next
abbrev pub stream_of : Stream → List ℕ
stream_of s = window_bytes s ++ s.bytes.now

-- the register of the first `own` bytes of a full window, after k of the bytes were pushed
abbrev pub own_register : ℕ → List ℕ → List ℕ → ℕ → ℕ
own_register own content bytes k = register_of (take own (pushed_content content bytes k))

-- zeros up to the slice size make this register the CRC-32 of a slice that has the tail's length
abbrev pub is_tail_register : SliceSet → Tail → ℕ → Bool
is_tail_register set tail register =
    set_has_own_crc set (zeros_crc tail.zeros.len register) tail.length

-- `ahead` is the register of the tail after all bytes were pushed, and after none of the bytes the
-- tail has the CRC-32 of a slice of its length
pub record HasPassed (set : SliceSet) (content bytes : List ℕ) (tail : Tail) : Type 0 where
  pub ahead : tail.ahead ≡ own_register tail.length content bytes (length bytes)
  pub none : (k : ℕ) → 0 < k → k ≤ length bytes
      → ¬ IsTrue (is_tail_register set tail (own_register tail.length content bytes k))

-- `ahead` is the register of the tail's bytes in other content of the window
abbrev pub IsAhead : List ℕ → Tail → Type 0
IsAhead content tail = tail.ahead ≡ register_of (take tail.length content)

-- two tails have the same length, number of zeros and register
pub record AreOneTail (a b : Tail) : Type 0 where
  pub length : a.length ≡ b.length
  pub zeros : a.zeros.len ≡ b.zeros.len
  pub register : a.register ≡ b.register

-- all bytes were pushed, and after none of them the window is at a slice
pub record PushesPast (set : SliceSet) (before : WindowState) (bytes : List ℕ)
    (after : WindowState) : Type 0 where
  pub all : after ≡ pushed_window before bytes (length bytes)
  pub none : (k : ℕ) → 0 < k → k ≤ length bytes
      → ¬ IsTrue (is_at_slice set (pushed_window before bytes k))
