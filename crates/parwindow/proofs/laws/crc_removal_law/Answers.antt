use Rattle.parwindow.proofs.crc_laws.CrcLaws.{crc_rolls}
use Rattle.parwindow.proofs.laws.crc_removal_law.Goals as goal

pub returns : goal.returns
returns c = crc_rolls
