use Rattle.std.proofs.Common.{◌≡◌, ◌∙◌, nat_le, false, sym, arith}
use Rattle.std.proofs.lemmas.Bool.Decides.{nat_tests}
use Rattle.parwindow.specs.Entries.{is_between}
use Rattle.parwindow.specs.Index.{has_own}
use Rattle.parwindow.specs.Missing.{has_fit_crc_of}
use Rattle.parwindow.proofs.slice_laws.MissingLaws.{entries_there, none_unfound, own_between, own_past, unfound_is}
use Rattle.parwindow.proofs.slice_laws.WithCrcLaws.{with_crc}
use Rattle.parwindow.proofs.slices.entries.Entries.is_missing_of.Goals as goal

pub has_open-requires-clause-there : goal.has_open-requires-clause-there
has_open-requires-clause-there c =
    entries_there c.args.slices.now c.args.self.now.list.items c.with_crc.result.now
    c.requires.indexed c.args.crc
    (rw c.with_crc.ensures.all (with_crc c.args.self.now.list.items c.args.crc))

pub returns-then-own-left : goal.returns-then-own-left
returns-then-own-left c =
    λ size. c.has_open.ensures
    ∙ unfound_is c.args.slices.now c.args.self.now.list.items c.with_crc.result.now
    c.requires.indexed c.args.crc
    (rw c.with_crc.ensures.all (with_crc c.args.self.now.list.items c.args.crc)) (has_own c.args.own (has_fit_crc_of c.args.crc c.args.left))
    (is_between c.args.own c.args.own)
    (own_between c.args.crc c.args.own c.args.left c.if-own-left.true) c.args.found.now

pub returns-else-own-left : goal.returns-else-own-left
returns-else-own-left c =
    let past : nat_le c.args.own c.args.left ≡ false = grind (arith, nat_tests) in
    λ size. past ∙ sym (none_unfound c.args.slices.now c.args.found.now
    (has_own c.args.own (has_fit_crc_of c.args.crc c.args.left))
    (own_past c.args.crc c.args.own c.args.left (omega (arith, c.if-own-left.false))))
