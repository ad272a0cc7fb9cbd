use Rattle.std.proofs.Common.{arith, ap, length}
use Rattle.parwindow.proofs.slice_laws.TailLengthsLaws.{few_tails}
use Rattle.parwindow.specs.Index.{slice_set_of}
use Rattle.parwindow.proofs.index.Index.tails.Goals as goal

pub overflow_cast-result : goal.overflow_cast-result
overflow_cast-result c =
    let i = c.self.inside in
    let few = few_tails (slice_set_of i.size i.slices) in
    let same = ap length c.self.invariant.tails in
    omega (arith, c.len.ensures, same, few, c.self.invariant.slices.greatest_size)
