use Rattle.std.proofs.Common.{ap, arith}
use Rattle.std.specs.Int.Bits.{bit_xor}
use Rattle.parwindow.proofs.rolling.roll_tables.RollTables.with_two.Goals as goal

pub returns : goal.returns
returns c =
    rw (c.from.ensures, c.from_le_bytes.ensures) (ap (bit_xor c.args.register) (omega arith))
