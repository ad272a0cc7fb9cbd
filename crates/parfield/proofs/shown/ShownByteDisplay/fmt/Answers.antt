use Rattle.std.proofs.Common.{rules}
use Rattle.parfield.proofs.shown.ShownByteDisplay.fmt.Goals as goal

pub returns-then-byte-eq92-clause-writes : goal.returns-then-byte-eq92-clause-writes
returns-then-byte-eq92-clause-writes g c = search rules steps 300000
