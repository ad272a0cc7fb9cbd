use Rattle.std.proofs.Common.{◌≡◌, map, take}
use Rattle.parset.specs.Slices.{file_views, set_file_of}
use Rattle.parset.proofs.slicing.set_files.Given as goal

abbrev pub invariant-loop-file : goal.invariant-loop-file
invariant-loop-file l = l.shown.items ≡ map set_file_of (file_views l.sums (take l.file-index l.files))
