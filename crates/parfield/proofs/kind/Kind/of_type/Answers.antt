use Rattle.std.proofs.Common.{rules}
use Rattle.parfield.proofs.kind.Kind.of_type.Goals as goal

pub returns-then-eq-5 : goal.returns-then-eq-5
returns-then-eq-5 c = search rules steps 300000
