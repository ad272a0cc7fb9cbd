use Rattle.std.proofs.Common.{sym, ◌∙◌}
use Rattle.parwindow.proofs.slice_laws.MissingLaws.{no_fit}
use Rattle.parwindow.proofs.index.Index.has_fit_crc.Goals as goal

pub returns-then-has_crc : goal.returns-then-has_crc
returns-then-has_crc c = rw (← c.self.view_is) (c.has.ensures c.self.inside.slices
    c.self.invariant.lengths)

pub returns-else-has_crc : goal.returns-else-has_crc
returns-else-has_crc c =
    c.if-has_crc.false ∙ sym (no_fit c.args.self.now.slices c.args.crc c.args.left
    (sym c.has_crc.ensures ∙ c.if-has_crc.false))
