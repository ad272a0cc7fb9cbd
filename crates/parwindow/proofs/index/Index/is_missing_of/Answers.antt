use Rattle.std.proofs.Common.{arith}
use Rattle.std.proofs.lemmas.Grind.{common_steps}
use Rattle.parwindow.proofs.index.Index.is_missing_of.Goals as goal

pub is_missing_of-requires-clause-indexed : goal.is_missing_of-requires-clause-indexed
is_missing_of-requires-clause-indexed c = grind (arith, common_steps) steps 100000

pub is_missing_of-requires-clause-each : goal.is_missing_of-requires-clause-each
is_missing_of-requires-clause-each c = grind (arith, common_steps) steps 100000

pub returns : goal.returns
returns c =
    let told = rw c.as_slice.ensures at (c.is_missing_of.ensures c.self.inside.size) in
    rw (← c.self.view_is) told
