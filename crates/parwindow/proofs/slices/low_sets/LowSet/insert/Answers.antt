use Rattle.std.proofs.Common.{◌/◌, ◌^◌, ◌<◌, arith, bit_and, w8}
use Rattle.std.proofs.lemmas.Nat.{and_le_r}
use Rattle.parwindow.proofs.slice_laws.FilterLaws.{with_bit-has, with_bit-keeps}
use Rattle.parwindow.proofs.slices.low_sets.LowSet.insert.Goals as goal

pub returns-clause-has : goal.returns-clause-has
returns-clause-has c =
    let r = c.args.register in
    let set = c.args.self.now in
    let bit : bit_and (r / 2 ^ 8) 7 < 8 = omega (arith, and_le_r (r / 2 ^ 8) 7) in (
      with_bit-has w8 set.low (bit_and r 15) (bit_and (r / 2 ^ 8) 7)
          (omega (arith, and_le_r r 15)) bit,
      with_bit-has w8 set.high (bit_and (r / 2 ^ 4) 15) (bit_and (r / 2 ^ 8) 7)
          (omega (arith, and_le_r (r / 2 ^ 4) 15)) bit,
    )

pub returns-clause-keeps : goal.returns-clause-keeps
returns-clause-keeps c = λ other was.
    let r = c.args.register in
    let set = c.args.self.now in
    let bit : bit_and (r / 2 ^ 8) 7 < 8 = omega (arith, and_le_r (r / 2 ^ 8) 7) in (
      with_bit-keeps w8 set.low (bit_and r 15) (bit_and (r / 2 ^ 8) 7)
          (omega (arith, and_le_r r 15)) bit (bit_and other 15) (bit_and (other / 2 ^ 8) 7) was.0,
      with_bit-keeps w8 set.high (bit_and (r / 2 ^ 4) 15) (bit_and (r / 2 ^ 8) 7)
          (omega (arith, and_le_r (r / 2 ^ 4) 15)) bit (bit_and (other / 2 ^ 4) 15)
          (bit_and (other / 2 ^ 8) 7) was.1,
    )
