use Rattle.std.proofs.Common.{◌+◌, ◌-◌, ◌*◌, ◌<◌, ◌≤◌, length}
use Rattle.parwindow.proofs.window_laws.PushUntilLaws.{PushedSoFar}
use Rattle.parwindow.proofs.window.Window.push_pieces_until.Given as goal

abbrev pub invariant-loop-done : goal.invariant-loop-done
invariant-loop-done l = record {
  so_far : PushedSoFar l.index l.fn.self l.bytes l.done l.self;
  within : l.done ≤ length l.bytes;
  some : 0 < l.most;
  most : l.most ≤ 512;
  then_some : 0 < l.then;
  then_most : l.then ≤ 512;
}

abbrev pub decreases-loop-done : goal.decreases-loop-done
decreases-loop-done l = (length l.bytes - l.done) * 2048 + l.most
