use Rattle.std.proofs.Common.{IsTrue, ◌*◌, ◌≡◌, length, min}
use Rattle.parwindow.specs.Rolling.{rolled_over}
use Rattle.parwindow.proofs.rolling_laws.RollUntilLaws.{GoesOn}
use Rattle.parwindow.proofs.rolling.roll_tables.RollTables.roll_until.Given as goal

abbrev pub invariant-loop-turn : goal.invariant-loop-turn
invariant-loop-turn g l = record {
  is_len : l.len ≡ min (length l.gone) (length l.come);
  on : GoesOn (λ register. IsTrue (g.S.RegisterSet.has l.set register)) (rolled_over l.self.others l.start l.gone l.come)
      (2 * l.turn) l.register;
}
