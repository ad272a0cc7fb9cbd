use Rattle.std.proofs.lemmas.Grind.{common_steps}
use Rattle.std.proofs.Common.{rules, arith}
use Rattle.parfield.proofs.packet.packet_of_header.Goals as goal

pub returns-clause-packet : goal.returns-clause-packet
returns-clause-packet c = search rules steps 300000

pub returns-then-ne-clause-found : goal.returns-then-ne-clause-found
returns-then-ne-clause-found c = search rules steps 2500000

pub slice_bounds-result-count : goal.slice_bounds-result-count
slice_bounds-result-count c = grind (arith, common_steps)

pub slice_bounds-result-start : goal.slice_bounds-result-start
slice_bounds-result-start c = grind (arith, common_steps)

pub returns-clause-found : goal.returns-clause-found
returns-clause-found c = grind (arith, common_steps)
