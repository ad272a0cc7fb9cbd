use Rattle.std.proofs.Common.{◌≡◌, ◌+◌, ◌≤◌, ◌==◌, length, take}
use Rattle.std.specs.List.{suffix_len}
use Rattle.parset.proofs.bodies.body_bytes.trimmed.Given as goal

-- after `end`, there are only zero bytes
abbrev pub invariant-loop-end : goal.invariant-loop-end
invariant-loop-end l =
    (l.end ≤ length l.bytes)
    × (l.end + suffix_len (λ b. b == 0) l.bytes ≡ length l.bytes + suffix_len (λ b. b == 0) (take l.end l.bytes))

abbrev pub decreases-loop-end : goal.decreases-loop-end
decreases-loop-end l = l.end
