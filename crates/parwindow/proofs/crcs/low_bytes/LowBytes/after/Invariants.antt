use Rattle.std.proofs.Common.{◌+◌, ◌*◌, ◌%◌, ◌^◌, bit_xor, slice_index}
use Rattle.parwindow.specs.Crc32.{crc_steps}
use Rattle.parwindow.specs.Lanes.{HasLanes}
use Rattle.parwindow.proofs.crcs.low_bytes.LowBytes.after.Given as goal

abbrev pub invariant-loop-q : goal.invariant-loop-q
invariant-loop-q l =
    HasLanes l.low (λ i. crc_steps (8 * l.self.len)
    (bit_xor (slice_index l.nibbles.registers (l.at + i)) 0xFFFFFFFF % 2 ^ (4 * l.q)) % 256)
