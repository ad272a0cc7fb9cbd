use Rattle.std.proofs.Common.{◌∙◌, arith}
use Rattle.parfield.proofs.ByteLaws.{little_number-slice_range}
use Rattle.parset.proofs.bodies.body_bytes.u32_at.Goals as goal

pub returns : goal.returns
returns c = c.read_u32.ensures ∙ little_number-slice_range 4 c.args.bytes.now c.args.at (omega arith)
