use Rattle.std.proofs.Common.{◌∙◌}
use Rattle.parwindow.specs.Entries.{is_between}
use Rattle.parwindow.specs.Missing.{has_fit_crc_of}
use Rattle.parwindow.proofs.slice_laws.MissingLaws.{entries_there, fits_between, unfound_is}
use Rattle.parwindow.proofs.slice_laws.WithCrcLaws.{with_crc}
use Rattle.parwindow.proofs.slices.entries.Entries.is_missing.Goals as goal

pub has_open-requires-clause-there : goal.has_open-requires-clause-there
has_open-requires-clause-there c =
    entries_there c.args.slices.now c.args.self.now.list.items c.with_crc.result.now
    c.requires.indexed c.args.crc
    (rw c.with_crc.ensures.all (with_crc c.args.self.now.list.items c.args.crc))

pub returns : goal.returns
returns c =
    λ size. c.has_open.ensures
    ∙ unfound_is c.args.slices.now c.args.self.now.list.items c.with_crc.result.now
    c.requires.indexed c.args.crc
    (rw c.with_crc.ensures.all (with_crc c.args.self.now.list.items c.args.crc)) (has_fit_crc_of c.args.crc c.args.left) (is_between 0 c.args.left)
    (fits_between c.args.crc c.args.left) c.args.found.now
