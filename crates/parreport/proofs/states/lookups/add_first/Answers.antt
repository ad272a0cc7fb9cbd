use Rattle.std.proofs.Common.{◌∙◌, ap, cond, sym, unwrap_or, rules, Some, None}
use Rattle.std.specs.BTreeMap.Entry.{map_with_value}
use Rattle.std.specs.Option.{option_or}
use Rattle.parreport.specs.Lookups.{first_at}
use Rattle.parreport.specs.States.{shows_content_of}
use Rattle.parreport.proofs.LookupLaws.{first_added}
use Rattle.parreport.proofs.states.lookups.add_first.Goals as goal

pub returns-in_ok-firsts : goal.returns-in_ok-firsts
returns-in_ok-firsts c file =
    let kept = c.or_insert.result.now in
    let put = first_added c.args.firsts.now (map_with_value c.in_ok-firsts.field-0 kept) c.in-Some.content c.args.number kept
    (c.in_ok-firsts.ensures.update.0 kept)
    (c.or_insert.ensures.value ∙ ap (λ old. unwrap_or old c.args.number) c.in_ok-firsts.ensures.value) file in
    let is = ap (λ content. option_or (first_at c.args.firsts.now file) (cond (shows_content_of file content) (Some c.args.number) None)) c.in-Some.is in
    search (rules, put ∙ sym is)
