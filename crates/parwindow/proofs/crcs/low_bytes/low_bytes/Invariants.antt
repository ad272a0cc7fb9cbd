use Rattle.std.proofs.Common.{◌≡◌, ℕ, ◌%◌, ◌<◌, get_or, length}
use Rattle.parwindow.proofs.crcs.low_bytes.low_bytes.Given as goal

abbrev pub invariant-loop-i : goal.invariant-loop-i
invariant-loop-i l =
    (length l.table ≡ 128)
    × ((k : ℕ) → k < l.i → get_or l.table k 0 ≡ get_or l.words k 0 % 256)
