-- The fields of waiting tails, and what contracts see of them.
use Rattle.std.specs.Prelude.{[], All, IfSome}
use Rattle.parwindow.specs.Running.{IsRun}
use Rattle.parwindow.specs.Tails.{tail_lengths_of, IsTail}
use Rattle.parwindow.specs.WaitingTails.{WaitingState}
use Rattle.parwindow.specs.declared.tails.waiting_tails.WaitingTails.TheInside.{Inside}

-- waiting tails, as contracts see them
abbrev pub waiting_view : Inside → WaitingState
waiting_view t = record { size = t.size; lengths = tail_lengths_of t.list.items }

-- each tail is right for a window without bytes, and so is the running register, if there is one
pub record IsWaiting (t : Inside) : Type 0 where
  pub tails : All (IsTail t.size []) t.list.items
  pub running : IfSome t.running (IsRun t.size [])
