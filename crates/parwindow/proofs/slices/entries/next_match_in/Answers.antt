use Rattle.std.proofs.Common.{arith, sym, ◌∙◌, ◌≤◌, length}
use Rattle.std.proofs.lemmas.Grind.{common_steps}
use Rattle.parwindow.proofs.slice_laws.SearchLaws.{next_found, none_past, none_other, same_bytes, other_bytes}
use Rattle.parwindow.proofs.slices.entries.next_match_in.Goals as goal

pub returns-in-Some : goal.returns-in-Some
returns-in-Some c =
    let there = c.in-Some.ensures.lookup in
    let same = same_bytes c.in-Some.entry.now.digest c.args.digest.0
    (sym c.if-eq.true ∙ c.eq.ensures) in
    λ slices indexed.
    next_found slices c.args.entries.now c.args.crc c.args.digest.0 indexed c.args.from
    c.first_not_below.result
    c.first_not_below.ensures
    c.in-Some.entry.now there.3.0 (sym there.1) c.if-entry-crc.true same

pub returns-in_default : goal.returns-in_default
returns-in_default c =
    let there = c.in-Some.ensures.lookup in
    λ slices indexed.
    none_other slices c.args.entries.now c.args.crc c.args.digest.0 indexed c.args.from
    c.first_not_below.result
    c.first_not_below.ensures
    c.in-Some.entry.now there.3.0 (sym there.1)
    (λ same_crc same_digest. other_bytes c.in-Some.entry.now.digest c.args.digest.0
    (sym c.if-eq.false ∙ c.eq.ensures) same_digest)

pub returns-in_default-2 : goal.returns-in_default-2
returns-in_default-2 c =
    let there = c.in-Some.ensures.lookup in
    λ slices indexed.
    none_other slices c.args.entries.now c.args.crc c.args.digest.0 indexed c.args.from
    c.first_not_below.result
    c.first_not_below.ensures
    c.in-Some.entry.now there.3.0 (sym there.1)
    (λ same_crc same_digest. c.if-entry-crc.false same_crc)

pub returns-in_default-3 : goal.returns-in_default-3
returns-in_default-3 c =
    let past : length c.args.entries.now ≤ c.first_not_below.result =
    rw c.in_default.is at c.get.ensures.lookup.3 in
    λ slices indexed.
    none_past slices c.args.entries.now c.args.crc c.args.digest.0 indexed c.args.from
    c.first_not_below.result
    c.first_not_below.ensures past

pub first_not_below-requires : goal.first_not_below-requires
first_not_below-requires c = grind (arith, common_steps) steps 100000

pub eq-requires : goal.eq-requires
eq-requires c = grind (arith, common_steps) steps 100000
