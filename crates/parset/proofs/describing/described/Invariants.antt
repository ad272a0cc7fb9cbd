use Rattle.std.proofs.Common.{◌≡◌, ◌++◌, map, drop, Ok}
use Rattle.parfield.specs.Chain.{◌>>=◌}
use Rattle.parset.specs.RecoverySet.{descriptions_of}
use Rattle.parset.proofs.describing.described.Given as goal

-- the descriptions so far, followed by the descriptions for the IDs that are left, are the result
abbrev pub invariant-loop-id : goal.invariant-loop-id
invariant-loop-id l =
    descriptions_of (map (λ k. k.now) l.own) l.ids
    ≡ (descriptions_of (map (λ k. k.now) l.own) (drop l.id-index l.ids) >>= λ others. Ok (l.files.items ++ others))
