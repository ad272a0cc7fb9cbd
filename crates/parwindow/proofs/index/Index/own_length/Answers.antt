use Rattle.std.proofs.lemmas.Grind.{elements, common_steps}
use Rattle.std.proofs.Common.{arith}
use Rattle.parwindow.proofs.index.Index.own_length.Goals as goal

pub offset_bounds-as_slice-slice : goal.offset_bounds-as_slice-slice
offset_bounds-as_slice-slice c = grind (arith, common_steps) steps 100000

pub bounds-as_slice-slice : goal.bounds-as_slice-slice
bounds-as_slice-slice c = grind (arith, common_steps) steps 100000

pub returns-clause-some : goal.returns-clause-some
returns-clause-some c = grind (arith, common_steps) steps 100000

pub returns-clause-within : goal.returns-clause-within
returns-clause-within c = grind (arith, common_steps) steps 100000

pub returns-clause-own : goal.returns-clause-own
returns-clause-own c = grind (arith, elements) steps 1500000
