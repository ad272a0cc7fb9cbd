use Rattle.std.proofs.Common.{arith}
use Rattle.parwindow.proofs.slice_laws.DirectoryLaws.{starts_all, starts_more, starts_none}
use Rattle.parwindow.proofs.slices.directory.starts_of.Goals as goal

pub loop-key-init : goal.loop-key-init
loop-key-init c =
    rw (c.in_ok-push.ensures.items, c.in_ok-starts.ensures.items) (starts_none c.args.entries.now)

pub loop-key-preserved : goal.loop-key-preserved
loop-key-preserved c =
    rw c.in_ok-push-2.ensures.items
    (starts_more c.args.entries.now c.loop-key.starts.items c.loop-key.key c.loop-key.at
    c.end_of-at.result c.loop-key.invariant c.end_of-at.ensures.rises c.end_of-at.ensures.next)

pub returns : goal.returns
returns c =
    starts_all c.args.entries.now c.loop-key.starts.items c.loop-key.key c.loop-key.at (omega arith)
    c.loop-key.invariant
