use Rattle.std.proofs.Common.{arith}
use Rattle.std.proofs.lemmas.Grind.{common_steps}
use Rattle.parwindow.specs.Crc32.{crc_of, register_of}
use Rattle.parwindow.proofs.crcs.checksum.crc32.Goals as goal

pub returns : goal.returns
unfolding crc_of register_of
returns c = grind (arith, common_steps)
