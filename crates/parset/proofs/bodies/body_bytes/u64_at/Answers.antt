use Rattle.std.proofs.Common.{◌∙◌, arith}
use Rattle.parfield.proofs.ByteLaws.{little_number-slice_range}
use Rattle.parset.proofs.bodies.body_bytes.u64_at.Goals as goal

pub returns : goal.returns
returns c = c.read_u64.ensures ∙ little_number-slice_range 8 c.args.bytes.now c.args.at (omega arith)
