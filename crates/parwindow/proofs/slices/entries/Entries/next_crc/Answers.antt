use Rattle.parwindow.proofs.slice_laws.LeastFromLaws.{next_crc_is}
use Rattle.parwindow.proofs.slice_laws.WithCrcLaws.{with_crc}
use Rattle.parwindow.proofs.slices.entries.Entries.next_crc.Goals as goal

pub returns : goal.returns
returns c =
    let entries = c.args.self.now.list.items in
    λ slices indexed.
    next_crc_is slices entries c.with_crc.result.now c.args.crc c.args.from c.least_from.result
    indexed (rw c.with_crc.ensures.all (with_crc entries c.args.crc)) c.least_from.ensures
