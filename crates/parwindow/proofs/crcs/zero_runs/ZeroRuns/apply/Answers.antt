use Rattle.std.proofs.Common.{ap, ◌∙◌, arith}
use Rattle.parwindow.specs.declared.crcs.zero_run.ZeroRun.{ZeroRun}
use Rattle.parwindow.proofs.crc_laws.ZeroRunLaws.{run_more_clear, run_more_set, run_none}
use Rattle.parwindow.proofs.crcs.zero_runs.ZeroRuns.apply.Goals.{then-count-i-eq1, else-count-i-eq1}
use Rattle.parwindow.proofs.crcs.zero_runs.ZeroRuns.apply.Goals as goal

pub loop-i-init : goal.loop-i-init
loop-i-init c = run_none c.args.count c.args.register

pub loop-i-preserved : goal.loop-i-preserved
loop-i-preserved c =
    let i = c.loop-i.i in
    elim c.if-count-i-eq1.branch [
      | then-count-i-eq1 w ↦
          rw w.out-is
          (run_more_set c.args.count c.args.register i c.loop-i.out c.loop-i.invariant _ _
          (ap (λ (run : ZeroRun). run.len) w.index.ensures
          ∙ c.args.self.now.powers.1 i _ (omega arith)) w.apply-out.ensures w.if-count-i-eq1.true)
      | else-count-i-eq1 w ↦
          rw w.out-is
          (run_more_clear c.args.count c.args.register i c.loop-i.out c.loop-i.invariant
          w.if-count-i-eq1.false)
    ]
