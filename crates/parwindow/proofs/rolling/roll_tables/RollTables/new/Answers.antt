use Rattle.std.proofs.Common.{◌≡◌, ◌+◌, ◌-◌, arith}
use Rattle.parwindow.proofs.crc_laws.TableLaws.{steps_bytes, steps_twice}
use Rattle.parwindow.proofs.rolling.roll_tables.RollTables.new.Goals as goal

pub invariant_of-result : goal.invariant_of-result
invariant_of-result c =
    let once : c.args.size - 1 + 1 ≡ c.args.size = omega arith in
    let twice : c.args.size - 1 + 2 ≡ c.args.size + 1 = omega arith in
    record {
      steps = steps_bytes;
      two_steps = steps_twice;
      once_removes = rw once c.removal_table.ensures;
      twice_removes = rw twice c.removal_table-2.ensures;
    }
