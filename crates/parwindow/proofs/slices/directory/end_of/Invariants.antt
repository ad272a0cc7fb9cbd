use Rattle.std.proofs.Common.{◌≡◌}
use Rattle.std.specs.List.{AllWithin}
use Rattle.parwindow.specs.Directory.{key_of}
use Rattle.parwindow.proofs.slices.directory.end_of.Given as goal

abbrev pub invariant-loop-at : goal.invariant-loop-at
invariant-loop-at l = AllWithin (λ e. key_of e.crc ≡ l.key) l.entries l.from l.at
