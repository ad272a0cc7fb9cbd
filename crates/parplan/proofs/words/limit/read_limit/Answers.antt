use Rattle.std.proofs.Common.{◌∙◌, get_or, rules}
use Rattle.std.specs.Int.{IsInRange}
use Rattle.parplan.proofs.LimitLaws.{limit_of-positive, none-limit_of, parsed-limit_of}
use Rattle.parplan.proofs.words.limit.read_limit.Goals as goal

pub returns-then-not-begins_above_zero-clause-limit : goal.returns-then-not-begins_above_zero-clause-limit
returns-then-not-begins_above_zero-clause-limit c = none-limit_of c.args.text.now (search rules)

pub returns-clause-limit : goal.returns-clause-limit
returns-clause-limit c =
    let first : IsInRange 49 57 (get_or c.args.text.now 0 0) = search rules in
    c.ok.ensures.value ∙ parsed-limit_of c.args.text.now c.parse.result c.parse.ensures.value.0 first

pub returns-clause-positive : goal.returns-clause-positive
returns-clause-positive c =
    let first : IsInRange 49 57 (get_or c.args.text.now 0 0) = search rules in
    limit_of-positive c.args.text.now c.ok.result
    (c.ok.ensures.value ∙ parsed-limit_of c.args.text.now c.parse.result c.parse.ensures.value.0 first)
