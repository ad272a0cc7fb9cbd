use Rattle.std.proofs.Common.{◌∙◌}
use Rattle.std.proofs.lemmas.List.Filters.{dedup_is}
use Rattle.parwindow.proofs.slice_laws.TailLengthsLaws.{tails_are}
use Rattle.parwindow.proofs.slices.short_lengths.tail_lengths.Goals as goal

pub returns : goal.returns
returns c =
    dedup_is _ _ _ c.dedup.ensures.filtered
    ∙ tails_are c.args.size c.args.slices.now c.in_ok-lengths.lengths.items c.requires.own
    c.in_ok-lengths.ensures c.sort_unstable.new.self.items c.sort_unstable.ensures.permutation
    c.sort_unstable.ensures.sorted
