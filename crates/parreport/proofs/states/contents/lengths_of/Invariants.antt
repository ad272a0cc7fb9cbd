use Rattle.std.proofs.Common.{◌≡◌, ◌||◌, ℕ, drop}
use Rattle.std.specs.BTreeSet.{contains}
use Rattle.std.specs.Ordering.{nat_cmp}
use Rattle.parreport.specs.States.{has_length}
use Rattle.parreport.proofs.states.contents.lengths_of.Given as goal

-- some file has a length exactly if it is in the set, or if a file that is left has it
abbrev pub invariant-loop-file : goal.invariant-loop-file
invariant-loop-file l =
    (n : ℕ) → (contains nat_cmp l.lengths n || has_length (drop l.file-index l.files) n) ≡ has_length l.files n
