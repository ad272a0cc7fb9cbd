use Rattle.std.proofs.Common.{◌%◌, get_or, arith}
use Rattle.std.proofs.lemmas.Nat.{and_mask}
use Rattle.parwindow.proofs.crc_laws.ZeroRunLaws.{fills_more}
use Rattle.parwindow.proofs.crcs.low_bytes.low_bytes.Goals as goal

pub loop-i-preserved : goal.loop-i-preserved
loop-i-preserved c =
    fills_more (λ k. get_or c.args.words.now k 0 % 256) 128 c.loop-i.table c.loop-i.i _
    c.loop-i.invariant.0 (omega arith) (and_mask (get_or c.args.words.now c.loop-i.i 0) 8)
    c.loop-i.invariant.1
