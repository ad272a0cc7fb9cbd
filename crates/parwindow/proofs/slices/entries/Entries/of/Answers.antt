use Rattle.std.proofs.Common.{arith, rules}
use Rattle.std.proofs.lemmas.Grind.{common_steps}
use Rattle.parwindow.proofs.slice_laws.EntryLaws.{index_moved}
use Rattle.parwindow.proofs.slices.entries.Entries.of.Goals as goal

pub invariant_of-result : goal.invariant_of-result
invariant_of-result c = search rules steps 1000000

pub listed-requires : goal.listed-requires
listed-requires c = grind (arith, common_steps) steps 100000

pub returns-in_err-list : goal.returns-in_err-list
returns-in_err-list c = grind (arith, common_steps) steps 100000

pub returns : goal.returns
returns c =
    index_moved c.args.slices.now c.in_ok-list.list.items c.sort_unstable.new.self.items
    c.sort_unstable.ensures.permutation c.in_ok-list.ensures.index
