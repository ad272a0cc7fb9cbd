use Rattle.std.proofs.Common.{take}
use Rattle.std.specs.Fmt.{HasWritten, IsPlainFormatter}
use Rattle.parfield.specs.Shown.{shown}
use Rattle.parfield.proofs.shown.ShownDisplay.fmt.Given as goal

-- the bytes before this one are written as they are shown
abbrev pub invariant-loop-byte : goal.invariant-loop-byte
invariant-loop-byte g l = IsPlainFormatter l.initial.f → HasWritten g.W.Write.write_str_gives l.initial.f (shown (take l.byte-index l.byte-items)) l.f
