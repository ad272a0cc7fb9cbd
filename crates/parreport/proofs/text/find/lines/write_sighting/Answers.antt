use Rattle.std.proofs.Common.{arith}
use Rattle.std.proofs.lemmas.Grind.{common_steps}
use Rattle.parreport.proofs.text.find.lines.write_sighting.Goals as goal

pub returns-in_err-line : goal.returns-in_err-line
returns-in_err-line g c = grind (arith, common_steps) steps 100000

pub returns-in_err-write_text : goal.returns-in_err-write_text
returns-in_err-write_text g c = grind (arith, common_steps) steps 100000

pub returns : goal.returns
returns g c = grind (arith, common_steps) steps 100000
