use Rattle.std.proofs.Common.{◌≡◌, map, drop}
use Rattle.parset.specs.Choosing.{first_creator_of}
use Rattle.parset.proofs.choosing.creator.Given as goal

-- no packet before this one has a text, so the packets that are left have the first
-- text, if there is one
abbrev pub invariant-loop-kept : goal.invariant-loop-kept
invariant-loop-kept l = first_creator_of (map (λ k. k.now) (drop l.kept-index l.own)) ≡ first_creator_of (map (λ k. k.now) l.own)
