use Rattle.std.proofs.Common.{arith}
use Rattle.std.proofs.lemmas.Grind.{common_steps}
use Rattle.parshelf.proofs.sinks.memory.MemSink.text.Goals as goal

pub slice_bounds-result-end : goal.slice_bounds-result-end
slice_bounds-result-end c = grind (arith, common_steps) steps 100000

pub returns : goal.returns
returns c = grind (arith, common_steps) steps 100000
