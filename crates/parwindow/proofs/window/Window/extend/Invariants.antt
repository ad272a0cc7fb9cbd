use Rattle.std.proofs.Common.{◌≡◌}
use Rattle.parwindow.proofs.window_laws.ExtendLaws.{extended}
use Rattle.parwindow.proofs.window.Window.extend.Given as goal

abbrev pub invariant-loop-byte : goal.invariant-loop-byte
invariant-loop-byte l = l.self ≡ extended l.fn.self l.bytes l.byte-index
