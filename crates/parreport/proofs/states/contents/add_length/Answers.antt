use Rattle.std.proofs.Common.{◌∙◌}
use Rattle.std.specs.BTreeSet.{contains}
use Rattle.std.specs.Ordering.{nat_cmp}
use Rattle.parreport.proofs.LengthLaws.{there_after}
use Rattle.parreport.proofs.states.contents.add_length.Goals as goal

pub returns : goal.returns
returns c n =
    c.in_ok-insert.ensures.updates.0 n ∙ there_after c.args.length n (contains nat_cmp c.args.lengths.now n)
