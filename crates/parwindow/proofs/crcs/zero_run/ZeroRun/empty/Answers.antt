use Rattle.std.proofs.Common.{arith, ◌^◌, ◌∙◌, sym}
use Rattle.parwindow.proofs.crc_laws.ZeroRunLaws.{bit_more, fills_more}
use Rattle.parwindow.proofs.crc_laws.ZeroRunLaws.{crc_steps_none}
use Rattle.parwindow.proofs.crcs.zero_run.ZeroRun.empty.Goals as goal

pub loop-i-preserved : goal.loop-i-preserved
loop-i-preserved c =
    fills_more (λ k. 2 ^ k) 32 c.loop-i.columns c.loop-i.i _ c.loop-i.invariant.0 (omega arith)
    (bit_more c.loop-i.i (omega arith)) c.loop-i.invariant.1

pub invariant_of-result : goal.invariant_of-result
invariant_of-result c =
    record {
      by_bit = λ i below. c.loop-i.invariant.1 i (omega arith)
          ∙ sym (crc_steps_none (2 ^ i));
    }
