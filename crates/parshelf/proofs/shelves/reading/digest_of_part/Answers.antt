use Rattle.std.proofs.Common.{[]}
use Rattle.parshelf.proofs.shelves.reading.digest_of_part.Goals as goal

pub returns-clause-digest : goal.returns-clause-digest
returns-clause-digest g c = λ files reads. c.finalize.ensures _ (c.in_ok-hash_part.ensures.hashed files reads [] c.new-hasher.ensures)
