use Rattle.std.proofs.Common.{arith, rules}
use Rattle.std.proofs.lemmas.Grind.{common_steps}
use Rattle.parset.proofs.reading.reason_of.Goals as goal

pub returns-in-FileDesc-Whole-clause-memory : goal.returns-in-FileDesc-Whole-clause-memory
returns-in-FileDesc-Whole-clause-memory c = search rules steps 1000000

pub returns-in-Other-default-clause-reason : goal.returns-in-Other-default-clause-reason
returns-in-Other-default-clause-reason c = grind (arith, common_steps) steps 100000

pub returns-in-Other-default-clause-memory : goal.returns-in-Other-default-clause-memory
returns-in-Other-default-clause-memory c = grind (arith, common_steps) steps 100000

pub returns-in-RecvSlic-default-clause-reason : goal.returns-in-RecvSlic-default-clause-reason
returns-in-RecvSlic-default-clause-reason c = grind (arith, common_steps) steps 100000

pub returns-in-RecvSlic-default-clause-memory : goal.returns-in-RecvSlic-default-clause-memory
returns-in-RecvSlic-default-clause-memory c = grind (arith, common_steps) steps 100000

pub returns-in-Main-Whole-clause-reason : goal.returns-in-Main-Whole-clause-reason
returns-in-Main-Whole-clause-reason c = grind (arith, common_steps) steps 100000

pub returns-in-Main-Whole-clause-memory : goal.returns-in-Main-Whole-clause-memory
returns-in-Main-Whole-clause-memory c = grind (arith, common_steps) steps 100000

pub returns-in-FileDesc-Whole-clause-reason : goal.returns-in-FileDesc-Whole-clause-reason
returns-in-FileDesc-Whole-clause-reason c = grind (arith, common_steps) steps 100000

pub returns-in-Ifsc-Whole-clause-reason : goal.returns-in-Ifsc-Whole-clause-reason
returns-in-Ifsc-Whole-clause-reason c = grind (arith, common_steps) steps 100000

pub returns-in-Ifsc-Whole-clause-memory : goal.returns-in-Ifsc-Whole-clause-memory
returns-in-Ifsc-Whole-clause-memory c = grind (arith, common_steps) steps 100000

pub returns-in-Creator-Whole-clause-reason : goal.returns-in-Creator-Whole-clause-reason
returns-in-Creator-Whole-clause-reason c = grind (arith, common_steps) steps 100000

pub returns-in-Creator-Whole-clause-memory : goal.returns-in-Creator-Whole-clause-memory
returns-in-Creator-Whole-clause-memory c = grind (arith, common_steps) steps 100000

pub returns-in_default-Front-clause-reason : goal.returns-in_default-Front-clause-reason
returns-in_default-Front-clause-reason c = grind (arith, common_steps) steps 100000

pub returns-in_default-Front-clause-memory : goal.returns-in_default-Front-clause-memory
returns-in_default-Front-clause-memory c = grind (arith, common_steps) steps 100000

pub returns-in_default-Front-2-clause-reason : goal.returns-in_default-Front-2-clause-reason
returns-in_default-Front-2-clause-reason c = grind (arith, common_steps) steps 100000

pub returns-in_default-Front-2-clause-memory : goal.returns-in_default-Front-2-clause-memory
returns-in_default-Front-2-clause-memory c = grind (arith, common_steps) steps 100000

pub returns-in_default-Front-3-clause-reason : goal.returns-in_default-Front-3-clause-reason
returns-in_default-Front-3-clause-reason c = grind (arith, common_steps) steps 100000

pub returns-in_default-Front-3-clause-memory : goal.returns-in_default-Front-3-clause-memory
returns-in_default-Front-3-clause-memory c = grind (arith, common_steps) steps 100000

pub returns-in_default-Front-4-clause-reason : goal.returns-in_default-Front-4-clause-reason
returns-in_default-Front-4-clause-reason c = grind (arith, common_steps) steps 100000

pub returns-in_default-Front-4-clause-memory : goal.returns-in_default-Front-4-clause-memory
returns-in_default-Front-4-clause-memory c = grind (arith, common_steps) steps 100000
