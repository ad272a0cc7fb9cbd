use Rattle.std.proofs.Common.{◌≡◌, ◌+◌, take}
use Rattle.parset.specs.Limits.{slice_limit}
use Rattle.parset.specs.Slices.{slice_total}
use Rattle.parset.proofs.slicing.exceeds_slice_limit.Given as goal

abbrev pub invariant-loop-file : goal.invariant-loop-file
invariant-loop-file l = l.left + slice_total l.size (take l.file-index l.files) ≡ slice_limit
