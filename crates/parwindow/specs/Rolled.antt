-- The fields of a window, and what contracts see of them.
use Rattle.std.specs.Prelude.{◌≡◌, ◌+◌, ◌≤◌, All, IfSome, length}
use Rattle.parwindow.specs.Crc32.{register_of}
use Rattle.parwindow.specs.Running.{IsRun}
use Rattle.parwindow.specs.Tails.{tail_lengths_of, IsTail}
use Rattle.parwindow.specs.Window.{WindowState}
use Rattle.parwindow.specs.declared.window.Window.TheInside.{Inside}

-- the window as contracts see it
abbrev pub window_view : Inside → WindowState
window_view w = record {
  content = w.ring.items;
  capacity = w.ring.capacity;
  tails = tail_lengths_of w.tails.items;
  digests = w.digests.count;
}

-- the fields of a window agree: its register is the register of its bytes, and its tables, its
-- tails and its running register (if there is one) are right for its size and its bytes
pub record IsRolled (w : Inside) : Type 0 where
  pub within : length w.ring.items ≤ w.ring.capacity
  pub room : w.ring.capacity ≡ w.tables.others + 1
  pub rolled : w.register ≡ register_of w.ring.items
  pub tails : All (IsTail w.ring.capacity w.ring.items) w.tails.items
  pub running : IfSome w.running (IsRun w.ring.capacity w.ring.items)
