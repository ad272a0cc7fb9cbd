use Rattle.std.proofs.Common.{arith}
use Rattle.parwindow.specs.Index.{has_known_crc}
use Rattle.parwindow.proofs.ListLaws.{few_pass}
use Rattle.parwindow.proofs.index.Index.count_crc.Goals as goal

pub overflow_cast-result : goal.overflow_cast-result
overflow_cast-result c =
    let slices = c.self.inside.slices in
    omega (
      arith,
      c.count_crc.ensures slices c.self.invariant.indexes,
      few_pass (has_known_crc c.args.crc) slices,
      c.self.invariant.slices.few,
    )

pub returns-clause-few : goal.returns-clause-few
returns-clause-few c =
    let slices = c.self.inside.slices in
    omega (
      arith,
      c.count_crc.ensures slices c.self.invariant.indexes,
      few_pass (has_known_crc c.args.crc) slices,
      c.self.invariant.slices.few,
    )
