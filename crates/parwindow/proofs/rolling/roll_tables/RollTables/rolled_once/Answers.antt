use Rattle.std.proofs.Common.{arith}
use Rattle.parwindow.proofs.rolling_laws.RolledLaws.{once_by_two}
use Rattle.parwindow.proofs.rolling.roll_tables.RollTables.rolled_once.Goals as goal

pub returns : goal.returns
returns c = λ come next come_in next_in is.
    let rolls = c.args.self.now in
    rw is
    (once_by_two rolls.bytes rolls.once rolls.others c.args.register c.args.gone come next
    rolls.steps rolls.once_removes (omega arith) come_in)
