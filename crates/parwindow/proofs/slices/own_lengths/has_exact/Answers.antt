use Rattle.std.proofs.Common.{◌∙◌}
use Rattle.parwindow.proofs.slice_laws.OwnLengthsLaws.{exactly_from_search}
use Rattle.parwindow.proofs.slices.own_lengths.has_exact.Goals as goal

pub returns : goal.returns
returns c =
    let facts = c.binary_search.ensures in
    c.is_ok.ensures.value
    ∙ exactly_from_search c.args.lengths.now c.requires c.args.crc c.args.length _ facts.bound
    facts.position
