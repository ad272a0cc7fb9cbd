use Rattle.std.proofs.Common.{arith, ◌*◌}
use Rattle.parwindow.proofs.crc_laws.ZeroRunLaws.{apply_none, apply_more}
use Rattle.parwindow.proofs.crcs.zero_run.ZeroRun.apply.Goals as goal

pub loop-i-init : goal.loop-i-init
loop-i-init c = apply_none (8 * c.args.self.now.len) c.args.register

pub loop-i-preserved : goal.loop-i-preserved
loop-i-preserved c =
    let run = c.args.self.now in
    apply_more run.len c.args.register c.loop-i.i _ _ c.loop-i.invariant
    (run.by_bit c.loop-i.i (omega arith))
