use Rattle.std.proofs.Common.{◌≡◌, ℕ, ◌<◌, get_or, length}
use Rattle.parwindow.specs.Crc32.{removal_of}
use Rattle.parwindow.proofs.crcs.zero_run.removal_table.Given as goal

abbrev pub invariant-loop-x : goal.invariant-loop-x
invariant-loop-x l = (length l.table ≡ 256)
    × ((k : ℕ) → k < l.x → get_or l.table k 0 ≡ removal_of k l.fn.len)
