use Rattle.std.proofs.Common.{take}
use Rattle.parwindow.specs.Entries.{IsLeastOf}
use Rattle.parwindow.proofs.slices.entries.least_from.Given as goal

abbrev pub invariant-loop-entry : goal.invariant-loop-entry
invariant-loop-entry l = IsLeastOf (take l.entry-index l.entries) l.from l.least
