use Rattle.std.proofs.Common.{◌≡◌, map, take}
use Rattle.parset.specs.Choosing.{asides_of}
use Rattle.parset.proofs.choosing.asides.Given as goal

-- the list has the rejected ones of the packets before this one
abbrev pub invariant-loop-kept : goal.invariant-loop-kept
invariant-loop-kept l = l.asides.items ≡ asides_of l.size (map (λ k. k.now) (take l.kept-index l.own))
