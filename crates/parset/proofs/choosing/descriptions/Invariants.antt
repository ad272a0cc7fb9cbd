use Rattle.std.proofs.Common.{◌≡◌, map, take}
use Rattle.std.specs.BTreeMap.{get}
use Rattle.parfield.specs.HashOrder.{id_cmp}
use Rattle.parfield.specs.declared.hash16.Hash16.{Hash16}
use Rattle.parset.specs.Choosing.{file_description_of}
use Rattle.parset.proofs.choosing.descriptions.Given as goal

-- each ID has the first description among the packets before this one
abbrev pub invariant-loop-kept : goal.invariant-loop-kept
invariant-loop-kept l = (id : Hash16) → get id_cmp l.found id ≡ file_description_of id (map (λ k. k.now) (take l.kept-index l.own))
