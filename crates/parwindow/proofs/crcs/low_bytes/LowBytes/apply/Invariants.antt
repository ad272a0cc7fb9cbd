use Rattle.std.proofs.Common.{◌≡◌, ◌*◌, ◌%◌, ◌^◌}
use Rattle.parwindow.specs.Crc32.{crc_steps}
use Rattle.parwindow.proofs.crcs.low_bytes.LowBytes.apply.Given as goal

abbrev pub invariant-loop-q : goal.invariant-loop-q
invariant-loop-q l = l.out ≡ crc_steps (8 * l.self.len) (l.register % 2 ^ (4 * l.q))
