use Rattle.std.proofs.Common.{◌≡◌, ◌∙◌, ap}
use Rattle.std.specs.List.{filter}
use Rattle.parwindow.specs.Directory.{key_of, entry_has_key}
use Rattle.parwindow.specs.Entries.{entry_has_crc}
use Rattle.parwindow.proofs.slice_laws.DirectoryLaws.{crc_in_part}
use Rattle.parwindow.proofs.slices.entries.Entries.with_crc.Goals as goal

pub returns-clause-all : goal.returns-clause-all
returns-clause-all c =
    let entries = c.args.self.now.list.items in
    let part : c.part_of.result.now ≡ filter (entry_has_key (key_of c.args.crc)) entries =
    rw (← c.deref.ensures.value) c.part_of.ensures.all in
    c.with_crc_in.ensures.all ∙ ap (filter (entry_has_crc c.args.crc)) part
    ∙ crc_in_part entries c.args.crc
