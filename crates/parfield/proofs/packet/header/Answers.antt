use Rattle.std.proofs.Common.{rules}
use Rattle.parfield.proofs.packet.header.Goals as goal

pub returns-clause-found : goal.returns-clause-found
returns-clause-found c = search rules steps 300000

pub returns-then-bytes-lt64-clause-fault : goal.returns-then-bytes-lt64-clause-fault
returns-then-bytes-lt64-clause-fault c = search rules steps 100000

pub returns-clause-fields : goal.returns-clause-fields
returns-clause-fields c = search rules steps 300000
