use Rattle.std.proofs.Common.{arith}
use Rattle.parwindow.proofs.window_laws.PushLaws.{once_by}
use Rattle.parwindow.proofs.rolling.roll_tables.RollTables.rolled.Goals as goal

pub returns : goal.returns
returns c =
    let rolls = c.args.self.now in
    rw c.from.ensures
    (once_by rolls.bytes rolls.once rolls.others c.args.register c.args.gone c.args.come rolls.steps
    rolls.once_removes (omega arith) (omega arith))
