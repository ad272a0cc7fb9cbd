use Rattle.std.proofs.Common.{sym}
use Rattle.parfind.proofs.cursor_laws.SplitAtColonLaws.{slice_split-none, slice_split-some}
use Rattle.parfind.proofs.cursors.cursor_text.split_at_colon.Goals as goal

pub returns-in_err-at-clause-whole : goal.returns-in_err-at-clause-whole
returns-in_err-at-clause-whole c =
    rw c.from_residual.ensures (slice_split-none c.args.text.now (sym c.in_err-at.ensures))

pub returns-clause-parts : goal.returns-clause-parts
returns-clause-parts c = slice_split-some c.args.text.now c.in_ok-at.at (sym c.in_ok-at.ensures)
