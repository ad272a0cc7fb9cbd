use Rattle.std.proofs.Common.{◌∙◌, arith}
use Rattle.parfield.proofs.ByteLaws.{little_number-slice_range}
use Rattle.parfield.proofs.packet.length_of.Goals as goal

pub returns : goal.returns
returns c = c.read_u64.ensures ∙ little_number-slice_range 8 c.args.bytes.now 8 (omega arith)
