use Rattle.parwindow.proofs.slice_laws.WithCrcLaws.{has_all, with_crc}
use Rattle.parwindow.proofs.slices.entries.Entries.next_match.Goals as goal

pub returns : goal.returns
returns c =
    let entries = c.args.self.now.list.items in
    λ slices indexed.
    c.next_match_in.ensures slices (has_all slices entries c.with_crc.result.now c.args.crc
    c.args.digest.0 indexed
    (rw c.with_crc.ensures.all (with_crc entries c.args.crc)))
