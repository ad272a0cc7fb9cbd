use Rattle.parwindow.proofs.tail_laws.NextTailLaws.{NextTailSoFar}
use Rattle.parwindow.proofs.window.Window.next_tail.Given as goal

abbrev pub invariant-loop-k : goal.invariant-loop-k
invariant-loop-k l = NextTailSoFar l.index l.self.content l.from l.lengths l.k l.done l.register
