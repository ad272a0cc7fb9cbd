use Rattle.std.proofs.Common.{◌≡◌, ◌+◌, ◌≤◌, drop, unwrap_or}
use Rattle.std.specs.BTreeMap.{get}
use Rattle.parfield.specs.HashOrder.{id_cmp}
use Rattle.parfield.specs.declared.hash16.Hash16.{Hash16}
use Rattle.parreport.specs.Findings.{found_count_of}
use Rattle.parreport.proofs.text.verify.counts.found_counts.Given as goal

-- the counts so far, and those of the slices that are left
abbrev pub invariant-loop-index : goal.invariant-loop-index
invariant-loop-index l = record {
  counted : (id : Hash16)
      → unwrap_or (get id_cmp l.counts id) 0 + found_count_of (drop l.index l.slices) (drop l.index l.found) id
      ≡ found_count_of l.slices l.found id;
  few : (id : Hash16) → unwrap_or (get id_cmp l.counts id) 0 ≤ l.index;
}
