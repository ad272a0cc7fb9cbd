use Rattle.parwindow.proofs.slice_laws.DirectoryLaws.{StartsSoFar}
use Rattle.parwindow.proofs.slices.directory.starts_of.Given as goal

abbrev pub invariant-loop-key : goal.invariant-loop-key
invariant-loop-key l = StartsSoFar l.entries l.starts.items l.key l.at
