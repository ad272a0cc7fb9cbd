use Rattle.std.proofs.Common.{sym, ◌∙◌}
use Rattle.parfind.proofs.cursor_laws.CursorTextLaws.{last_part}
use Rattle.parfind.proofs.cursors.cursor_text.cursor_of.Goals as goal

pub returns : goal.returns
returns c =
    let last =
    last_part c.in_ok-file.file.now c.in_ok-offset.offset.now c.in_ok-offset.slice.now in
    rw (c.in_ok-file.ensures.parts, c.in_ok-offset.ensures.parts) (c.cursor_of_parts.ensures ∙ sym last)
