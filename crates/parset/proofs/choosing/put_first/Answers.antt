use Rattle.std.proofs.Common.{arith, ◌∙◌, sym}
use Rattle.std.proofs.lemmas.Grind.{common_steps}
use Rattle.std.specs.BTreeMap.{get}
use Rattle.parfield.specs.HashOrder.{id_cmp}
use Rattle.parset.proofs.ChoosingLaws.{put_where_none}
use Rattle.parset.proofs.choosing.put_first.Goals as goal

pub returns-in_ok-insert : goal.returns-in_ok-insert
returns-in_ok-insert g c q =
    c.in_ok-insert.ensures.updates.0 q
    ∙ put_where_none (get id_cmp c.args.found.now) c.args.id q c.args.fields (sym c.contains_key.ensures ∙ c.if-not-contains_key.true)

pub returns-in_err-insert : goal.returns-in_err-insert
returns-in_err-insert g c = grind (arith, common_steps) steps 100000
