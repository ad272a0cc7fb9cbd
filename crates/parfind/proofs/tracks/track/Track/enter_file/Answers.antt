use Rattle.std.proofs.Common.{arith, rules}
use Rattle.std.proofs.lemmas.Grind.{common_steps}
use Rattle.parfind.proofs.tracks.track.Track.enter_file.Goals as goal

pub returns-then-self-file-clause-other : goal.returns-then-self-file-clause-other
returns-then-self-file-clause-other c = search rules steps 1000000

pub returns-then-self-file-clause-same : goal.returns-then-self-file-clause-same
returns-then-self-file-clause-same c = search rules steps 1000000

pub returns-else-self-file-clause-same : goal.returns-else-self-file-clause-same
returns-else-self-file-clause-same c = grind (arith, common_steps) steps 100000

pub returns-else-self-file-clause-other : goal.returns-else-self-file-clause-other
returns-else-self-file-clause-other c = grind (arith, common_steps) steps 100000
