use Rattle.std.proofs.Common.{rules}
use Rattle.parfield.proofs.hex_byte.hex_digit.Goals as goal

pub returns-clause-value : goal.returns-clause-value
returns-clause-value c = search rules steps 100000
