use Rattle.std.proofs.Common.{rules}
use Rattle.parfield.proofs.text.TextAsStr.as_str.Goals as goal

pub returns : goal.returns
returns c = search rules steps 100000
