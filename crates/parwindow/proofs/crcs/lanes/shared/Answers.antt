use Rattle.std.proofs.Common.{◌∙◌, sym, bit_and}
use Rattle.std.specs.Simd.Lanes.{zip2}
use Rattle.parwindow.proofs.crc_laws.LaneLaws.{HasLanes-zip2, marked}
use Rattle.parwindow.proofs.crcs.lanes.shared.Goals as goal

pub returns : goal.returns
returns c = λ i below some.
    let lanes = HasLanes-zip2 bit_and c.args.a c.args.b c.fits-a.0 c.fits-b.0 in
    marked (zip2 bit_and c.args.a c.args.b) i lanes.long below
    (λ none. some (sym (lanes.each i below) ∙ none))
