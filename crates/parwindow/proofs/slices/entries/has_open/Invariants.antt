use Rattle.std.proofs.Common.{◌≡◌, take, false}
use Rattle.std.specs.List.{list_any}
use Rattle.parwindow.specs.Entries.{is_between, is_open}
use Rattle.parwindow.proofs.slices.entries.has_open.Given as goal

abbrev pub invariant-loop-entry : goal.invariant-loop-entry
invariant-loop-entry l =
    list_any (is_open l.slices l.found (is_between l.least l.most)) (take l.entry-index l.entries)
    ≡ false
