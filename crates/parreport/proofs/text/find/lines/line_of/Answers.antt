use Rattle.std.proofs.Common.{arith}
use Rattle.std.proofs.lemmas.Grind.{elements}
use Rattle.parreport.specs.Lines.{sighting_line}
use Rattle.parreport.proofs.text.find.lines.line_of.Goals as goal

pub returns-in-None : goal.returns-in-None
returns-in-None c = grind (arith, elements)

pub returns-in-Some : goal.returns-in-Some
unfolding sighting_line
returns-in-Some c = grind (arith, elements)
