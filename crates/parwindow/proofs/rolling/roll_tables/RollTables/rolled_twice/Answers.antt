use Rattle.std.proofs.Common.{arith}
use Rattle.parwindow.proofs.rolling_laws.RolledLaws.{twice_by_two}
use Rattle.parwindow.proofs.rolling.roll_tables.RollTables.rolled_twice.Goals as goal

pub returns : goal.returns
returns c = λ come next come_in next_in is.
    let rolls = c.args.self.now in
    rw is
    (twice_by_two rolls.bytes rolls.two_bytes rolls.once rolls.twice rolls.others c.args.register
    c.args.gone come c.args.next_gone next
    rolls.steps rolls.two_steps rolls.once_removes rolls.twice_removes (omega arith) come_in
    (omega arith) next_in)
