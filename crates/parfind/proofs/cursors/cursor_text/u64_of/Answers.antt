use Rattle.std.proofs.Common.{◌∙◌}
use Rattle.parfind.proofs.cursor_laws.NumberLaws.{number_of-parsed}
use Rattle.parfind.proofs.cursors.cursor_text.u64_of.Goals as goal

pub returns : goal.returns
returns c =
    let text = c.in_ok-canonical.ensures.text in
    let parsed = rw text at c.parse.ensures.value.0 in
    let some = c.in_ok-canonical.ensures.some in
    c.ok.ensures.value ∙ number_of-parsed 64 c.args.part.now c.parse.result parsed some
