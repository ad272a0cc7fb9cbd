use Rattle.std.proofs.Common.{◌≡◌, ℕ, ◌/◌, ◌%◌, ◌^◌, ◌<◌, bit_xor, get_or, length}
use Rattle.parwindow.proofs.crcs.nibbles.nibbles_at.Given as goal

abbrev pub invariant-loop-i : goal.invariant-loop-i
invariant-loop-i l =
    (length l.nibbles ≡ 528)
    × ((k : ℕ) → k < l.i → get_or l.nibbles k 0 ≡ bit_xor (get_or l.registers k 0) 0xFFFFFFFF / 2 ^ l.bits % 16)
