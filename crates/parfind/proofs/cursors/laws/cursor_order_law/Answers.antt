use Rattle.std.proofs.Common.{rules}
use Rattle.parfind.proofs.cursors.laws.cursor_order_law.Goals as goal

pub returns-clause-greater : goal.returns-clause-greater
returns-clause-greater c = search rules

pub returns-clause-less : goal.returns-clause-less
returns-clause-less c = search rules
