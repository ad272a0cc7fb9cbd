use Rattle.std.proofs.Common.{◌≡◌, ℕ, ◌*◌, ◌/◌, ◌%◌, ◌^◌, ◌<◌, get_or, length}
use Rattle.parwindow.specs.Crc32.{crc_steps}
use Rattle.parwindow.proofs.crcs.low_bytes.nibble_words.Given as goal

abbrev pub invariant-loop-i : goal.invariant-loop-i
invariant-loop-i l =
    (length l.words ≡ 128)
    × ((k : ℕ) → k < l.i
    → get_or l.words k 0 ≡ crc_steps (8 * l.run.len) (k % 16 * 2 ^ (4 * (k / 16))))
