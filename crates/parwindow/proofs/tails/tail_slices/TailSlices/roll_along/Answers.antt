use Rattle.std.proofs.Common.{◌≤◌, ◌∙◌, ap, sym, length, inl, arith, IsTrue}
use Rattle.parwindow.specs.Ahead.{window_bytes, is_tail_register}
use Rattle.parwindow.specs.declared.rolling.roll.Roll.{Roll}
use Rattle.parwindow.proofs.tail_laws.RollAlongLaws.{one_piece}
use Rattle.parwindow.proofs.rolling_laws.RollUntilLaws.{arrived}
use Rattle.parwindow.proofs.tails.tail_slices.TailSlices.roll_along.Goals as goal

pub overflow_add-self : goal.overflow_add-self
overflow_add-self c = omega (arith, c.args.self.now.tail.now.short)

pub returns-then-roll : goal.returns-then-roll
returns-then-roll c =
    let tail = c.args.self.now.tail.now in
    let s = c.args.stream.now in
    let short : tail.length ≤ length (window_bytes s) = omega (arith, c.requires.tail.shorter) in
    let more = one_piece (λ register. IsTrue (is_tail_register c.args.self.now.index.now tail register))
    (window_bytes s) s.bytes.now c.piece_from-gone.result.now c.piece_from-come.result.now tail.length
    tail.tables.others c.args.limit c.min-most.result c.loop-roll.roll c.roll_until-next.result
    tail.own short c.requires.within c.piece_from-gone.ensures.piece (omega arith) (omega arith)
    c.piece_from-come.ensures.piece c.loop-roll.invariant.goes_on c.loop-roll.invariant.here
    c.roll_until-next.ensures in
    let is = c.then-roll.ensures in
    rw is (arrived _ _ _ c.args.limit _ more.1
    (inl (sym (ap (λ (r : Roll). r.hit) is) ∙ c.if-roll.true)) more.0)

pub loop-roll-preserved : goal.loop-roll-preserved
loop-roll-preserved c =
    let tail = c.args.self.now.tail.now in
    let s = c.args.stream.now in
    let short : tail.length ≤ length (window_bytes s) = omega (arith, c.requires.tail.shorter) in
    let more = one_piece (λ register. IsTrue (is_tail_register c.args.self.now.index.now tail register))
    (window_bytes s) s.bytes.now c.piece_from-gone.result.now c.piece_from-come.result.now tail.length
    tail.tables.others c.args.limit c.min-most.result c.loop-roll.roll c.roll_until-next.result
    tail.own short c.requires.within c.piece_from-gone.ensures.piece (omega arith) (omega arith)
    c.piece_from-come.ensures.piece c.loop-roll.invariant.goes_on c.loop-roll.invariant.here
    c.roll_until-next.ensures in
    let is = c.then-roll.ensures in
    record { goes_on = c.if-roll.false; within = rw is more.0; here = rw is more.1 }
