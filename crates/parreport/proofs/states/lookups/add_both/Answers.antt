use Rattle.std.proofs.Common.{◌&&◌, ◌||◌, ◌∙◌, ap, sym}
use Rattle.parreport.specs.Lookups.{has_both_of}
use Rattle.parreport.specs.States.{shows_content_of, is_name_of}
use Rattle.parreport.proofs.LookupLaws.{both_added}
use Rattle.parreport.proofs.states.lookups.add_both.Goals as goal

pub returns-in_ok-insert : goal.returns-in_ok-insert
returns-in_ok-insert c file =
    both_added c.args.both.now c.insert.new.self c.in-Some.content c.args.name c.in_ok-insert.ensures.updates file
    ∙ ap (λ content. has_both_of c.args.both.now file || (shows_content_of file content && is_name_of file c.args.name.now))
    (sym c.in-Some.is)
