use Rattle.std.proofs.Common.{bit_xor}
use Rattle.parwindow.proofs.crc_laws.LaneLaws.{HasLanes-zip2}
use Rattle.parwindow.proofs.crcs.lanes.xored.Goals as goal

pub returns : goal.returns
returns c = HasLanes-zip2 bit_xor c.args.a c.args.b c.fits-a.0 c.fits-b.0
