use Rattle.std.proofs.Common.{◌≡◌, ◌++◌, map, option_map}
use Rattle.std.specs.List.{range_with_len}
use Rattle.parset.specs.Slices.{file_view, slice_of}
use Rattle.parset.proofs.slicing.add_slices.Given as goal

abbrev pub invariant-loop-number : goal.invariant-loop-number
invariant-loop-number l =
    l.slices.items ≡ l.initial.slices.items
    ++ map (slice_of l.size (file_view l.file (option_map (λ c. c.now) l.sums))) (range_with_len 0 l.number)
