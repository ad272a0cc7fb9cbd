use Rattle.std.proofs.Common.{◌≡◌, ℕ, Some, map, take}
use Rattle.std.specs.BTreeMap.{get}
use Rattle.parfield.specs.HashOrder.{id_cmp}
use Rattle.parfield.specs.declared.hash16.Hash16.{Hash16}
use Rattle.parset.specs.Choosing.{file_sums_of}
use Rattle.parset.proofs.choosing.checksums.Given as goal

-- each ID that has a count has the first checksums of that number among the packets before this one
abbrev pub invariant-loop-kept : goal.invariant-loop-kept
invariant-loop-kept l = (id : Hash16) (count : ℕ) → get id_cmp l.counts id ≡ Some count
    → get id_cmp l.found id ≡ file_sums_of id count (map (λ k. k.now) (take l.kept-index l.own))
