use Rattle.std.proofs.Common.{arith}
use Rattle.std.proofs.lemmas.Grind.{common_steps}
use Rattle.std.specs.List.Sorted.{IsPermutation}
use Rattle.parset.proofs.IdLaws.{sorted_is_in_order}
use Rattle.parset.proofs.in_order.in_order.Goals as goal

pub returns : goal.returns
returns c =
    let moved : IsPermutation c.args.ids.now c.sort_unstable.new.self.items = rw (← c.in_ok-sorted.ensures.items) c.sort_unstable.ensures.permutation in
    sorted_is_in_order c.args.ids.now c.sort_unstable.new.self.items moved c.sort_unstable.ensures.sorted

pub returns-in_err-sorted : goal.returns-in_err-sorted
returns-in_err-sorted c = grind (arith, common_steps) steps 100000
