use Rattle.parwindow.proofs.crcs.zero_run.ZeroRun.+new.Given as goal

abbrev pub decreases-new : goal.decreases-new
decreases-new l = l.len
