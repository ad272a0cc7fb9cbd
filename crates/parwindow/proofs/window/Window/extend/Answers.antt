use Rattle.parwindow.proofs.window_laws.ExtendLaws.{extended_more, extended_none}
use Rattle.parwindow.proofs.window.Window.extend.Goals as goal

pub loop-byte-init : goal.loop-byte-init
loop-byte-init c = extended_none c.args.self.now c.args.bytes.now

pub loop-byte-preserved : goal.loop-byte-preserved
loop-byte-preserved c =
    extended_more c.args.self.now c.loop-byte.self c.push.new.self c.args.bytes.now
    c.loop-byte.byte-index c.requires c.loop-byte-test.true c.loop-byte.invariant
    c.push.ensures.content
