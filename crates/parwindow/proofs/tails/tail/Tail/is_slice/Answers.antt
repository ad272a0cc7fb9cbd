use Rattle.std.proofs.Common.{◌∙◌}
use Rattle.parwindow.proofs.tail_laws.TailFilterLaws.{tail_misses}
use Rattle.parwindow.proofs.tails.tail.Tail.is_slice.Goals as goal

pub returns-else-may_have_tail : goal.returns-else-may_have_tail
returns-else-may_have_tail c =
    c.if-may_have_tail.false
    ∙ tail_misses c.args.index.now c.args.self.now.length c.args.self.now.zeros.len
    c.args.register c.may_have_tail.result c.may_have_tail.ensures
    c.if-may_have_tail.false c.requires.sized c.requires.shorter
