use Rattle.std.proofs.Common.{◌∙◌, ap, cond, sym, true}
use Rattle.std.specs.BTreeSet.{contains}
use Rattle.std.specs.Str.{bytes_eq}
use Rattle.parfield.specs.HashOrder.{id_cmp, bytes_eq-reversed}
use Rattle.parreport.specs.States.{is_intact}
use Rattle.parreport.proofs.CountLaws.{added}
use Rattle.parreport.proofs.states.found.add_if_intact.Goals as goal

pub returns-in_ok-insert : goal.returns-in_ok-insert
returns-in_ok-insert c q =
    let id = c.args.id in let there = contains id_cmp c.args.whole.now q in
    c.in_ok-insert.ensures.updates.0 q
    ∙ (ap (λ b. cond b true there) (sym (bytes_eq-reversed id.0 q.0))
    ∙ added (bytes_eq id.0 q.0) there (is_intact c.args.state) (sym c.is_intact.ensures ∙ c.if-is_intact.true))
