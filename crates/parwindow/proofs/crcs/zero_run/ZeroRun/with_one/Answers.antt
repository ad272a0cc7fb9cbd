use Rattle.std.proofs.Common.{arith, ◌^◌, ◌*◌, ◌+◌}
use Rattle.parwindow.specs.Crc32.{crc_steps}
use Rattle.parwindow.proofs.crc_laws.ZeroRunLaws.{with_one_column, fills_more}
use Rattle.parwindow.proofs.crcs.zero_run.ZeroRun.with_one.Goals as goal

pub loop-i-preserved : goal.loop-i-preserved
loop-i-preserved c =
    let run = c.args.self.now in
    fills_more (λ k. crc_steps (8 * (run.len + 1)) (2 ^ k)) 32 c.loop-i.columns c.loop-i.i _
    c.loop-i.invariant.0 (omega arith)
    (with_one_column run.len c.loop-i.i _ _ (run.by_bit c.loop-i.i (omega arith))
    c.after_byte.ensures)
    c.loop-i.invariant.1
