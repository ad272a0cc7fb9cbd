use Rattle.parwindow.specs.Index.{has_known_crc}
use Rattle.parwindow.proofs.ListLaws.{some_left}
use Rattle.parwindow.proofs.slices.entries.Entries.has_crc.Goals as goal

pub returns : goal.returns
returns c = λ slices indexed.
    rw (c.count_crc.ensures slices indexed) (some_left (has_known_crc c.args.crc) slices)
