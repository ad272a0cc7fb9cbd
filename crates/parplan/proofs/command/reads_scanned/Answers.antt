use Rattle.std.proofs.Common.{rules}
use Rattle.parplan.proofs.command.reads_scanned.Goals as goal

pub returns-in-Packets : goal.returns-in-Packets
returns-in-Packets c = search rules
