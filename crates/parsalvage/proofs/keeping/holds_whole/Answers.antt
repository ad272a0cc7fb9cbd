use Rattle.std.proofs.Common.{rules}
use Rattle.parsalvage.proofs.keeping.holds_whole.Goals as goal

pub returns-in-Main : goal.returns-in-Main
returns-in-Main c = search rules steps 1000000
