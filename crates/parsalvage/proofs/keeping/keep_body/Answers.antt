use Rattle.std.proofs.Common.{refl}
use Rattle.parsalvage.proofs.keeping.keep_body.Goals as goal

pub returns : goal.returns
returns c = rw (c.front_of.ensures, ← c.if-is_whole.ensures) refl
