use Rattle.std.proofs.Common.{◌/◌, ◌^◌}
use Rattle.parwindow.proofs.crc_laws.LaneLaws.{HasLanes-splat}
use Rattle.parwindow.proofs.crcs.lanes.high_nibbles.Goals as goal

pub returns : goal.returns
returns c = HasLanes-splat (λ a b. a / 2 ^ b) c.args.bytes 4 c.fits-bytes.0
