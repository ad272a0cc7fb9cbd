use Rattle.std.proofs.Common.{◌∙◌, Some, None, cond, get_or, ap, sym, arith}
use Rattle.std.specs.Option.{option_or}
use Rattle.parreport.specs.States.{shows_content_of}
use Rattle.parreport.proofs.LookupLaws.{position-more}
use Rattle.parreport.proofs.states.lookups.firsts_of.Goals as goal

pub loop-number-preserved : goal.loop-number-preserved
loop-number-preserved c = λ file.
    let contents = c.args.contents.now in let number = c.loop-number.number in
    let one = cond (shows_content_of file (get_or contents number None)) (Some number) None in
    c.in_ok-add_first.ensures file
    ∙ (ap (λ first. option_or first one) (c.loop-number.invariant file)
    ∙ sym (position-more (shows_content_of file) contents number None (omega arith)))
