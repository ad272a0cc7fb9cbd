use Rattle.std.proofs.Common.{◌≡◌, ◌⊎◌, ◌-◌, ℕ, true, length}
use Rattle.parwindow.specs.Index.{has_own, has_sums, slice_passes, sums_of}
use Rattle.parwindow.specs.Missing.{found_at}
use Rattle.parwindow.specs.Window.{zero_filled}
use Rattle.parfind.proofs.surveys.short.note_all.Given as goal

abbrev pub invariant-loop-slice : goal.invariant-loop-slice
invariant-loop-slice l = (n : ℕ) → found_at l.seen n ≡ true → (found_at l.fn.seen n ≡ true)
    ⊎ (slice_passes l.all.slices (has_own l.own (has_sums (sums_of (zero_filled l.all.slice_size l.own l.fn.window.content)))) n ≡ true)

abbrev pub decreases-loop-slice : goal.decreases-loop-slice
decreases-loop-slice l = length l.all.slices - l.from
