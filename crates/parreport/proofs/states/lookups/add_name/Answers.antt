use Rattle.parreport.proofs.LookupLaws.{name_added}
use Rattle.parreport.proofs.states.lookups.add_name.Goals as goal

pub returns : goal.returns
returns c =
    name_added c.args.names.now c.insert.new.self c.args.name c.in_ok-insert.ensures.updates
