use Rattle.std.proofs.Common.{arith}
use Rattle.parwindow.specs.declared.crcs.table.TheConstants.{STEPPED_BYTES, STEPPED_TWICE}
use Rattle.parwindow.proofs.crc_laws.TableLaws.{register_after-twice, steps_bytes, steps_twice}
use Rattle.parwindow.proofs.crcs.checksum.after_two.Goals as goal

pub returns : goal.returns
returns c =
    rw (c.from.ensures, c.from-2.ensures)
    (register_after-twice STEPPED_BYTES STEPPED_TWICE c.args.register c.args.first c.args.second
    steps_bytes steps_twice (omega arith) (omega arith))
