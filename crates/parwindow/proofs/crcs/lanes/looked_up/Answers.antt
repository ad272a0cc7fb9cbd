use Rattle.parwindow.proofs.crc_laws.LaneLaws.{HasLanes-look_up, may_look_up}
use Rattle.parwindow.proofs.crcs.lanes.looked_up.Goals as goal

pub swizzle : goal.swizzle
swizzle c = may_look_up c.args.places c.fits-places.0 c.requires

pub returns : goal.returns
returns c = HasLanes-look_up c.args.places c.fits-places.0 c.requires c.args.table
