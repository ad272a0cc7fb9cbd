use Rattle.std.proofs.Common.{arith}
use Rattle.std.proofs.lemmas.Grind.{common_steps}
use Rattle.parshelf.proofs.shelves.reading.digest_of.Goals as goal

pub slice_bounds-digest_of_part-end : goal.slice_bounds-digest_of_part-end
slice_bounds-digest_of_part-end g c = grind (arith, common_steps) steps 400000

pub digest_of_part-requires-clause-file : goal.digest_of_part-requires-clause-file
digest_of_part-requires-clause-file g c = grind (arith, common_steps) steps 100000

pub digest_of_part-requires-clause-within : goal.digest_of_part-requires-clause-within
digest_of_part-requires-clause-within g c = grind (arith, common_steps) steps 100000

pub digest_of_part-requires-clause-buffer : goal.digest_of_part-requires-clause-buffer
digest_of_part-requires-clause-buffer g c = grind (arith, common_steps) steps 400000

pub returns-clause-leaves : goal.returns-clause-leaves
returns-clause-leaves g c = grind (arith, common_steps) steps 400000
