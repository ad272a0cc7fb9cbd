use Rattle.std.proofs.Common.{◌≡◌, take, map}
use Rattle.std.specs.Prelude.{zip}
use Rattle.parwindow.specs.Missing.{unless_found}
use Rattle.parwindow.proofs.index.each_unless_found.Given as goal

abbrev pub invariant-loop-number : goal.invariant-loop-number
invariant-loop-number l = l.list.items ≡ take l.number (map unless_found (zip l.slices l.found))
