use Rattle.std.proofs.Common.{◌/◌, ◌%◌, ◌^◌, bit_xor, get_or, arith}
use Rattle.std.proofs.lemmas.Nat.{and_mask}
use Rattle.parwindow.proofs.crc_laws.ZeroRunLaws.{fills_more}
use Rattle.parwindow.proofs.crcs.nibbles.nibbles_at.Goals as goal

pub loop-i-preserved : goal.loop-i-preserved
loop-i-preserved c =
    fills_more (λ k. bit_xor (get_or c.args.registers.now k 0) 0xFFFFFFFF / 2 ^ c.args.bits % 16) 528 c.loop-i.nibbles
    c.loop-i.i _ c.loop-i.invariant.0 (omega arith)
    (and_mask (bit_xor (get_or c.args.registers.now c.loop-i.i 0) 0xFFFFFFFF / 2 ^ c.args.bits) 4) c.loop-i.invariant.1
