use Rattle.std.proofs.Common.{◌≡◌, List, ℕ, drop, nat_cmp, take}
use Rattle.std.specs.BTreeSet.{contains_by}
use Rattle.std.specs.Cmp.Lexicographic.{slice_cmp}
use Rattle.std.specs.List.{list_any}
use Rattle.parset.proofs.SharedNameLaws.{repeated_from}
use Rattle.parset.specs.SharedNames.{has_name, repeated_name}
use Rattle.parset.proofs.describing.repeated_name.Given as goal

-- the set has the names of the files before this one, and no two of these files have the same name
abbrev pub invariant-loop-file : goal.invariant-loop-file
invariant-loop-file l = record {
  names : (name : List ℕ) → contains_by (λ k. slice_cmp nat_cmp name k.now) l.names ≡ list_any (has_name name) (take l.file-index l.files);
  distinct : repeated_name l.files ≡ repeated_from (take l.file-index l.files) (drop l.file-index l.files);
}
