use Rattle.std.proofs.Common.{rules}
use Rattle.parshelf.proofs.sinks.writer.WriteSink.new.Goals as goal

pub returns-clause-writer : goal.returns-clause-writer
returns-clause-writer g c = search rules steps 1000000
