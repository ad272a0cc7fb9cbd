use Rattle.std.proofs.Common.{◌≤◌, length, drop, eqb, nat_lt, rules}
use Rattle.std.proofs.lemmas.List.Sorted.{IsPartitionPoint-from_clause}
use Rattle.parwindow.specs.declared.slices.entries.Entry.{Entry}
use Rattle.parwindow.proofs.ListLaws.{rest_is}
use Rattle.parwindow.proofs.slice_laws.LeastFromLaws.{parted_below, parted_same, with_crc_is}
use Rattle.parwindow.proofs.slices.entries.with_crc_in.Goals as goal

pub returns-clause-all : goal.returns-clause-all
returns-clause-all c =
    let entries = c.args.entries.now in
    let start = c.partition_point.result in
    let rest = rest_is entries start in
    let first = IsPartitionPoint-from_clause (λ (e : Entry). nat_lt e.crc c.args.crc) entries start
    c.partition_point.ensures.partitioned
    (parted_below entries c.args.crc c.requires) (λ a r f called. search rules) in
    let second = IsPartitionPoint-from_clause (λ (e : Entry). eqb e.crc c.args.crc) _ _
    c.partition_point-2.ensures.partitioned
    (rw rest (parted_same entries c.args.crc start c.requires first))
    (λ a r f called. search rules) in
    let bound : c.partition_point-2.result ≤ length (drop start entries) =
    rw rest at c.partition_point-2.ensures.bound in
    rw rest (with_crc_is entries c.args.crc start c.requires first c.partition_point.ensures.bound
    c.partition_point-2.result bound
    (rw rest at second))
