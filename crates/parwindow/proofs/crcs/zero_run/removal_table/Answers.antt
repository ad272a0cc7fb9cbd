use Rattle.std.proofs.Common.{arith}
use Rattle.parwindow.specs.Crc32.{removal_of}
use Rattle.parwindow.proofs.crc_laws.ZeroRunLaws.{fills_more}
use Rattle.parwindow.proofs.crcs.zero_run.removal_table.Goals as goal

pub loop-x-preserved : goal.loop-x-preserved
unfolding removal_of
loop-x-preserved c =
    fills_more (λ x. removal_of x c.args.len) 256 c.loop-x.table c.loop-x.x _ c.loop-x.invariant.0
    (omega arith)
    (rw (← c.new-run.ensures, ← c.after_byte.ensures) c.apply.ensures) c.loop-x.invariant.1
