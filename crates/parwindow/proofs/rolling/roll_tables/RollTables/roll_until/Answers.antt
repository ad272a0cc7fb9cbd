use Rattle.std.proofs.Common.{◌≡◌, ◌+◌, ◌*◌, ◌-◌, get_or, sym, ◌∙◌, arith, IsTrue}
use Rattle.parwindow.specs.Rolling.{rolled_over}
use Rattle.parwindow.proofs.rolling_laws.RolledLaws.{rolled_over-start, rolled_over-once, rolled_over-twice}
use Rattle.parwindow.proofs.rolling_laws.RollUntilLaws.{begins, stops, stops_twice, goes_on_twice, ends_at, refuses, told}
use Rattle.parwindow.proofs.rolling.roll_tables.RollTables.roll_until.Goals as goal

pub loop-turn-init : goal.loop-turn-init
loop-turn-init g c = record {
  is_len = c.min-len.ensures;
  on = begins (λ register. IsTrue (g.S.RegisterSet.has c.args.set.now register))
      (rolled_over c.args.self.now.others c.args.start c.args.gone.now c.args.come.now)
      c.args.start
      (sym (rolled_over-start c.args.self.now.others c.args.start c.args.gone.now
      c.args.come.now));
}

pub returns-then-has : goal.returns-then-has
returns-then-has g c =
    let n = c.args.self.now.others in
    let i = 2 * c.loop-turn.turn in
    let once = rolled_over-once n c.args.start c.args.gone.now c.args.come.now i
    c.loop-turn.register _ c.loop-turn.invariant.on.here
    (c.rolled_once-between.ensures (get_or c.args.come.now i 0) (get_or c.args.come.now (i + 1) 0)
    (omega arith) (omega arith) c.with_two-both.ensures) in
    rw (c.hit.ensures, ← c.loop-turn.invariant.is_len)
    (stops (λ register. IsTrue (g.S.RegisterSet.has c.args.set.now register))
    (rolled_over n c.args.start c.args.gone.now c.args.come.now) i
    c.loop-turn.register _ c.min-len.result
    c.loop-turn.invariant.on once (sym c.has.ensures ∙ c.if-has.true) (omega arith))

pub returns-then-has-2 : goal.returns-then-has-2
returns-then-has-2 g c =
    let n = c.args.self.now.others in
    let i = 2 * c.loop-turn.turn in
    let once = rolled_over-once n c.args.start c.args.gone.now c.args.come.now i
    c.loop-turn.register _ c.loop-turn.invariant.on.here
    (c.rolled_once-between.ensures (get_or c.args.come.now i 0) (get_or c.args.come.now (i + 1) 0)
    (omega arith) (omega arith) c.with_two-both.ensures) in
    let twice = rolled_over-twice n c.args.start c.args.gone.now c.args.come.now i
    c.loop-turn.register _ c.loop-turn.invariant.on.here
    (c.rolled_twice-after.ensures (get_or c.args.come.now i 0)
    (get_or c.args.come.now (i + 1) 0) (omega arith) (omega arith) c.with_two-both.ensures) in
    rw (c.hit-then-has-2.ensures, ← c.loop-turn.invariant.is_len)
    (stops_twice (λ register. IsTrue (g.S.RegisterSet.has c.args.set.now register))
    (rolled_over n c.args.start c.args.gone.now c.args.come.now)
    i c.loop-turn.register _ _ c.min-len.result
    c.loop-turn.invariant.on once (refuses _ _ (told _ _ c.has.ensures) c.if-has.false)
    twice (sym c.has-in-loop-turn.ensures ∙ c.if-has-2.true) (omega arith))

pub loop-turn-preserved : goal.loop-turn-preserved
loop-turn-preserved g c =
    let n = c.args.self.now.others in
    let i = 2 * c.loop-turn.turn in
    let once = rolled_over-once n c.args.start c.args.gone.now c.args.come.now i
    c.loop-turn.register _ c.loop-turn.invariant.on.here
    (c.rolled_once-between.ensures (get_or c.args.come.now i 0) (get_or c.args.come.now (i + 1) 0)
    (omega arith) (omega arith) c.with_two-both.ensures) in
    let twice = rolled_over-twice n c.args.start c.args.gone.now c.args.come.now i
    c.loop-turn.register _ c.loop-turn.invariant.on.here
    (c.rolled_twice-after.ensures (get_or c.args.come.now i 0)
    (get_or c.args.come.now (i + 1) 0) (omega arith) (omega arith) c.with_two-both.ensures) in
    let next : i + 2 ≡ 2 * (c.loop-turn.turn + 1) = omega arith in
    record {
      is_len = c.loop-turn.invariant.is_len;
      on = rw (← next) (goes_on_twice
          (λ register. IsTrue (g.S.RegisterSet.has c.args.set.now register))
          (rolled_over n c.args.start c.args.gone.now c.args.come.now)
          i c.loop-turn.register _ _
          c.loop-turn.invariant.on once (refuses _ _ (told _ _ c.has.ensures) c.if-has.false)
          twice (refuses _ _ (told _ _ c.has-in-loop-turn.ensures) c.if-has-2.false));
    }

pub returns : goal.returns
returns g c =
    let n = c.args.self.now.others in
    let last : 2 * c.loop-turn.turn ≡ c.min-len.result - 1 = omega arith in
    let on = rw last at c.loop-turn.invariant.on in
    let once = rolled_over-once n c.args.start c.args.gone.now c.args.come.now
    (c.min-len.result - 1) c.loop-turn.register _ on.here c.rolled-last.ensures in
    rw (← c.loop-turn.invariant.is_len)
    (ends_at (λ register. IsTrue (g.S.RegisterSet.has c.args.set.now register))
    (rolled_over n c.args.start c.args.gone.now c.args.come.now) (c.min-len.result - 1)
    c.loop-turn.register _ c.min-len.result _ on once (omega arith) (told _ _ c.has-2.ensures))
