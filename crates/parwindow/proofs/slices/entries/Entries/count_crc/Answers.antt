use Rattle.std.proofs.Common.{length, ap, sym, ◌∙◌}
use Rattle.std.proofs.lemmas.List.Sums.{length-filter}
use Rattle.parwindow.specs.Entries.{entry_has_crc}
use Rattle.parwindow.specs.Index.{has_known_crc}
use Rattle.parwindow.proofs.slice_laws.MissingEntriesLaws.{count_slices}
use Rattle.parwindow.proofs.slices.entries.Entries.count_crc.Goals as goal

pub returns : goal.returns
returns c =
    λ slices indexed.
    ap length c.with_crc.ensures.all
    ∙ length-filter (entry_has_crc c.args.crc) c.args.self.now.list.items
    ∙ count_slices slices c.args.self.now.list.items c.args.crc indexed
    ∙ sym (length-filter (has_known_crc c.args.crc) slices)
