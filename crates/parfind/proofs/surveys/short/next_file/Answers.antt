use Rattle.std.proofs.Common.{rules, ◌≡◌, false}
use Rattle.parwindow.specs.Missing.{found_at}
use Rattle.parfind.proofs.survey_laws.ExpectingLaws.{missing_fits}
use Rattle.parfind.proofs.surveys.short.next_file.Goals as goal

pub returns-then-is_file : goal.returns-then-is_file
returns-then-is_file c = λ less.
    let none : found_at c.args.found.now c.loop-n.n ≡ false = search rules in
    missing_fits c.args.all.now c.args.found.now c.requires c.loop-n.n none
    (c.is_file.ensures.sums c.if-is_file.true) (c.is_file.ensures.own c.if-is_file.true)
