use Rattle.std.proofs.Common.{◌≡◌, take}
use Rattle.std.specs.List.{filter}
use Rattle.parwindow.specs.Entries.{is_unfound}
use Rattle.parwindow.proofs.slices.entries.unfound.Given as goal

abbrev pub invariant-loop-entry : goal.invariant-loop-entry
invariant-loop-entry l = l.list.items ≡ filter (is_unfound l.found) (take l.entry-index l.entries)
