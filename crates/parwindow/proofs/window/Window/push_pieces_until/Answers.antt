use Rattle.std.proofs.Common.{◌-◌, ◌∙◌, length, take, drop, sym, arith}
use Rattle.parwindow.proofs.window_laws.PushUntilLaws.{piece_of, pushed_here, pushed_more, pushed_past, pushed_until}
use Rattle.parwindow.proofs.window.Window.push_pieces_until.Goals as goal

pub loop-done-preserved-then-passed-piece : goal.loop-done-preserved-then-passed-piece
loop-done-preserved-then-passed-piece c =
    let bytes = c.args.bytes.now in
    let done = c.loop-done.done in
    let held = c.loop-done.invariant in
    let piece = piece_of bytes done c.min.result (omega arith) in
    record {
      so_far = rw c.if-passed-piece.true (pushed_past c.args.index.now c.args.self.now
          c.loop-done.self c.push_past-passed.new.self bytes
          (take c.min.result (take (length bytes - done) (drop done bytes))) done
          c.requires.full held.so_far (omega (arith, piece.0, held.within)) piece.1
          (c.push_past-passed.ensures.all c.if-passed-piece.true));
      within = omega (arith, piece.0, held.within);
      some = held.then_some;
      most = held.then_most;
      then_some = omega (arith, held.then_some);
      then_most = omega arith;
    }

pub returns-then-hit-clause-content : goal.returns-then-hit-clause-content
returns-then-hit-clause-content c =
    let held = c.loop-done.invariant in
    let same = c.push_past-passed.ensures.fewer (omega arith) in
    pushed_here c.args.index.now c.args.self.now c.args.bytes.now c.loop-done.done
    c.push_past-passed.new.self c.push_on-hit.new.self c.requires.full (rw same held.so_far)
    c.loop-done-test.true c.push_on-hit.ensures.content

pub returns-then-hit-clause-until : goal.returns-then-hit-clause-until
returns-then-hit-clause-until c =
    let held = c.loop-done.invariant in
    let same = c.push_past-passed.ensures.fewer (omega arith) in
    pushed_until c.args.index.now c.args.self.now c.args.bytes.now c.loop-done.done
    c.push_past-passed.new.self c.push_on-hit.new.self c.requires.full (rw same held.so_far)
    c.loop-done-test.true c.push_on-hit.ensures.content
    (sym c.push_on-hit.ensures.slice ∙ c.if-hit.true)

pub loop-done-preserved : goal.loop-done-preserved
loop-done-preserved c =
    let held = c.loop-done.invariant in
    let same = c.push_past-passed.ensures.fewer (omega arith) in
    record {
      so_far = pushed_more c.args.index.now c.args.self.now c.args.bytes.now c.loop-done.done
          c.push_past-passed.new.self c.push_on-hit.new.self c.requires.full
          (rw same held.so_far) c.loop-done-test.true c.push_on-hit.ensures.content
          (sym c.push_on-hit.ensures.slice ∙ c.if-hit.false);
      within = omega arith;
      some = held.then_some;
      most = held.then_most;
      then_some = omega (arith, held.then_some);
      then_most = omega arith;
    }
