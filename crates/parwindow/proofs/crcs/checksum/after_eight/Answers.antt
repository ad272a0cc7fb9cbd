use Rattle.std.proofs.Common.{arith}
use Rattle.std.proofs.lemmas.Nat.{xor_lt}
use Rattle.parwindow.proofs.crc_laws.EightBytesLaws.{eight_by}
use Rattle.parwindow.proofs.crcs.checksum.after_eight.Goals as goal

pub bounds-word : goal.bounds-word
bounds-word c =
    let fits = xor_lt 64 c.from.result c.from_le_bytes.result (omega arith) (omega arith) in
    omega arith

pub returns : goal.returns
returns c =
    rw (c.from.ensures, c.from_le_bytes.ensures)
    (eight_by c.args.register c.args.bytes.now (omega arith) c.told-bytes c.fits-bytes
    (omega arith))
