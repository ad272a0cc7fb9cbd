use Rattle.std.proofs.Common.{get_or, ◌∙◌, bit_and}
use Rattle.std.proofs.lemmas.Nat.{and_mask}
use Rattle.parwindow.proofs.crc_laws.LaneLaws.{HasLanes-splat}
use Rattle.parwindow.proofs.crcs.lanes.low_nibbles.Goals as goal

pub returns : goal.returns
returns c =
    let v = c.args.bytes in
    let lanes = HasLanes-splat bit_and v 15 c.fits-bytes.0 in
    record { long = lanes.long; each = λ i l. lanes.each i l ∙ and_mask (get_or v i 0) 4 }
