use Rattle.std.proofs.Common.{sym, ◌∙◌}
use Rattle.std.proofs.lemmas.List.Sorted.{list_any-IsPermutation}
use Rattle.parwindow.specs.OwnLengths.{is_exactly, is_within}
use Rattle.parwindow.proofs.slices.own_lengths.OwnLengths.of.Goals as goal

pub returns-clause-within : goal.returns-clause-within
returns-clause-within c = λ crc left.
    sym (list_any-IsPermutation (is_within crc left) c.in_ok-list.list.items
    c.sort_unstable.new.self.items c.sort_unstable.ensures.permutation)
    ∙ c.in_ok-list.ensures.within crc left

pub returns-clause-exactly : goal.returns-clause-exactly
returns-clause-exactly c = λ crc length.
    sym (list_any-IsPermutation (is_exactly crc length) c.in_ok-list.list.items
    c.sort_unstable.new.self.items c.sort_unstable.ensures.permutation)
    ∙ c.in_ok-list.ensures.exactly crc length
