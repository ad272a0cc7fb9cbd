use Rattle.std.proofs.Common.{arith, ◌∙◌, ◌+◌, Some, ap, cond, sym, unwrap_or}
use Rattle.std.proofs.lemmas.Grind.{common_steps}
use Rattle.std.specs.BTreeMap.{get}
use Rattle.std.specs.Ordering.{is_eq}
use Rattle.parfield.specs.HashOrder.{id_cmp, bytes_eq-reversed}
use Rattle.parreport.proofs.CountLaws.{counted}
use Rattle.parreport.proofs.text.verify.counts.count_if.Goals as goal

pub returns-in_ok-insert : goal.returns-in_ok-insert
returns-in_ok-insert c q =
    let id = c.args.id in let old = get id_cmp c.args.counts.now in
    ap (λ o. unwrap_or o 0) (c.in_ok-insert.ensures.updates.0 q
    ∙ (ap (λ n. cond (is_eq (id_cmp id q)) (Some (n + 1)) (old q)) c.count_at-count.ensures
    ∙ ap (λ b. cond b (Some (unwrap_or (old id) 0 + 1)) (old q)) (sym (bytes_eq-reversed id.0 q.0))))
    ∙ counted old id q c.args.found c.if-found.true

pub overflow_add-count : goal.overflow_add-count
overflow_add-count c = grind (arith, common_steps) steps 100000

pub returns-in_err-insert : goal.returns-in_err-insert
returns-in_err-insert c = grind (arith, common_steps) steps 100000

pub returns-else-found : goal.returns-else-found
returns-else-found c = grind (arith, common_steps) steps 100000
