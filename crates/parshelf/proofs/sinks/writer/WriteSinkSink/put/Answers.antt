use Rattle.std.proofs.Common.{arith, rules}
use Rattle.std.proofs.lemmas.Grind.{common_steps}
use Rattle.parshelf.proofs.sinks.writer.WriteSinkSink.put.Goals as goal

pub returns-in-Err-clause-writer : goal.returns-in-Err-clause-writer
returns-in-Err-clause-writer g c = search rules steps 1000000

pub returns-in-Ok-clause-taken : goal.returns-in-Ok-clause-taken
returns-in-Ok-clause-taken g c = search rules steps 1000000

pub returns-in-Ok-clause-writer : goal.returns-in-Ok-clause-writer
returns-in-Ok-clause-writer g c = search rules steps 1000000

pub returns-in-Ok-eq0-clause-writer : goal.returns-in-Ok-eq0-clause-writer
returns-in-Ok-eq0-clause-writer g c = search rules steps 1000000

pub slice_bounds-append-end : goal.slice_bounds-append-end
slice_bounds-append-end g c = grind (arith, common_steps) steps 100000

pub returns-in-Ok-eq0-clause-bound : goal.returns-in-Ok-eq0-clause-bound
returns-in-Ok-eq0-clause-bound g c = grind (arith, common_steps) steps 100000

pub returns-in-Ok-eq0-clause-taken : goal.returns-in-Ok-eq0-clause-taken
returns-in-Ok-eq0-clause-taken g c = grind (arith, common_steps) steps 100000

pub returns-in-Ok-eq0-clause-nothing : goal.returns-in-Ok-eq0-clause-nothing
returns-in-Ok-eq0-clause-nothing g c = grind (arith, common_steps) steps 100000

pub returns-in-Ok-eq0-clause-full : goal.returns-in-Ok-eq0-clause-full
returns-in-Ok-eq0-clause-full g c = grind (arith, common_steps) steps 100000

pub returns-in-Ok-eq0-clause-failed : goal.returns-in-Ok-eq0-clause-failed
returns-in-Ok-eq0-clause-failed g c = grind (arith, common_steps) steps 100000

pub returns-in-Ok-clause-bound : goal.returns-in-Ok-clause-bound
returns-in-Ok-clause-bound g c = grind (arith, common_steps) steps 100000

pub returns-in-Ok-clause-nothing : goal.returns-in-Ok-clause-nothing
returns-in-Ok-clause-nothing g c = grind (arith, common_steps) steps 100000

pub returns-in-Ok-clause-full : goal.returns-in-Ok-clause-full
returns-in-Ok-clause-full g c = grind (arith, common_steps) steps 100000

pub returns-in-Ok-clause-failed : goal.returns-in-Ok-clause-failed
returns-in-Ok-clause-failed g c = grind (arith, common_steps) steps 100000

pub returns-in-Err-clause-bound : goal.returns-in-Err-clause-bound
returns-in-Err-clause-bound g c = grind (arith, common_steps) steps 100000

pub returns-in-Err-clause-taken : goal.returns-in-Err-clause-taken
returns-in-Err-clause-taken g c = grind (arith, common_steps) steps 100000

pub returns-in-Err-clause-nothing : goal.returns-in-Err-clause-nothing
returns-in-Err-clause-nothing g c = grind (arith, common_steps) steps 100000

pub returns-in-Err-clause-full : goal.returns-in-Err-clause-full
returns-in-Err-clause-full g c = grind (arith, common_steps) steps 100000

pub returns-in-Err-clause-failed : goal.returns-in-Err-clause-failed
returns-in-Err-clause-failed g c = grind (arith, common_steps) steps 100000
