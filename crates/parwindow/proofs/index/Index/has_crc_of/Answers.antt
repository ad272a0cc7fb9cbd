use Rattle.std.proofs.Common.{sym, ◌∙◌}
use Rattle.parwindow.proofs.slice_laws.OwnLengthsLaws.{no_own}
use Rattle.parwindow.proofs.index.Index.has_crc_of.Goals as goal

pub returns-then-has_crc : goal.returns-then-has_crc
returns-then-has_crc c = rw (← c.self.view_is) (c.has_exactly.ensures c.self.inside.slices
    c.self.invariant.exactly)

pub returns-else-has_crc : goal.returns-else-has_crc
returns-else-has_crc c =
    c.if-has_crc.false ∙ sym (no_own c.args.self.now.slices c.args.crc c.args.own
    (sym c.has_crc.ensures ∙ c.if-has_crc.false))
