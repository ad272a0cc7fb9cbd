use Rattle.std.proofs.Common.{◌≤◌, length, nat_lt, rules, sym, eq-eqb, ne_eqb}
use Rattle.std.proofs.lemmas.List.Sorted.{IsPartitionPoint-from_clause}
use Rattle.parwindow.specs.declared.slices.own_lengths.OwnLength.{OwnLength}
use Rattle.parwindow.proofs.slice_laws.OwnLengthsLaws.{parted_lengths, first_within, none_within}
use Rattle.parwindow.proofs.slices.own_lengths.has_within.Goals as goal

pub returns-then-shortest-crc : goal.returns-then-shortest-crc
returns-then-shortest-crc c =
    let own = c.args.lengths.now in
    let first = IsPartitionPoint-from_clause (λ (f : OwnLength). nat_lt f.crc c.args.crc)
    own c.partition_point.result
    c.partition_point.ensures.partitioned (parted_lengths own c.requires c.args.crc)
    (λ a r f called. search rules) in
    let there = c.in-Some.ensures.lookup in
    let is = first_within own c.requires c.args.crc c.args.left
    c.partition_point.result first c.in-Some.shortest.now there.3.0 (sym there.1) in
    rw (eq-eqb c.in-Some.shortest.now.crc c.args.crc c.if-shortest-crc.true) at is

pub returns-else-shortest-crc : goal.returns-else-shortest-crc
returns-else-shortest-crc c =
    let own = c.args.lengths.now in
    let first = IsPartitionPoint-from_clause (λ (f : OwnLength). nat_lt f.crc c.args.crc)
    own c.partition_point.result
    c.partition_point.ensures.partitioned (parted_lengths own c.requires c.args.crc)
    (λ a r f called. search rules) in
    let there = c.in-Some.ensures.lookup in
    let is = first_within own c.requires c.args.crc c.args.left
    c.partition_point.result first c.in-Some.shortest.now there.3.0 (sym there.1) in
    rw (ne_eqb c.in-Some.shortest.now.crc c.args.crc c.if-shortest-crc.false)
    (rw (ne_eqb c.in-Some.shortest.now.crc c.args.crc c.if-shortest-crc.false) at is)

pub returns-in-None : goal.returns-in-None
returns-in-None c =
    let own = c.args.lengths.now in
    let first = IsPartitionPoint-from_clause (λ (f : OwnLength). nat_lt f.crc c.args.crc)
    own c.partition_point.result
    c.partition_point.ensures.partitioned (parted_lengths own c.requires c.args.crc)
    (λ a r f called. search rules) in
    let past : length own ≤ c.partition_point.result = rw c.in-None.is at c.get.ensures.lookup.3 in
    sym (none_within own c.requires c.args.crc c.args.left c.partition_point.result first past)
