use Rattle.std.specs.Ordering.{is_lt}
use Rattle.parwindow.specs.Entries.{entry_cmp}
use Rattle.parwindow.proofs.ListLaws.{sorted_part}
use Rattle.parwindow.proofs.slices.directory.part_of.Goals as goal

pub returns-clause-sorted : goal.returns-clause-sorted
returns-clause-sorted c =
    sorted_part (λ x y. is_lt (entry_cmp x y)) c.args.entries.now _ _ c.requires.sorted
