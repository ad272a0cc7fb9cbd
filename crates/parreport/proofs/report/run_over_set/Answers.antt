use Rattle.std.proofs.Common.{rules}
use Rattle.parreport.proofs.report.run_over_set.Goals as goal

pub returns-in-Verify-clause-scanned : goal.returns-in-Verify-clause-scanned
returns-in-Verify-clause-scanned g c = (
  search rules,
  record { within = search rules; unsearched = λ contents reads needs verify. c.write_verify.ensures.unsearched contents reads needs },
)
