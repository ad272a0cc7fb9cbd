use Rattle.parfind.proofs.cursor_laws.CursorTextLaws.{has_one_text, reads_its_text}
use Rattle.parfind.proofs.cursors.laws.cursor_text_law.Goals as goal

pub returns : goal.returns
returns c = record { read = reads_its_text; one = has_one_text }
