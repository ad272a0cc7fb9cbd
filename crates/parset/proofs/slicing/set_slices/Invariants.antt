use Rattle.std.proofs.Common.{◌≡◌, take}
use Rattle.std.specs.List.{flat_map}
use Rattle.parset.specs.Slices.{file_views, slices_of_file}
use Rattle.parset.proofs.slicing.set_slices.Given as goal

abbrev pub invariant-loop-file : goal.invariant-loop-file
invariant-loop-file l =
    l.slices.items ≡ flat_map (slices_of_file l.size) (file_views l.sums (take l.file-index l.files))
