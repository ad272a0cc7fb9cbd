use Rattle.std.proofs.Common.{◌/◌, length}
use Rattle.parwindow.proofs.crc_laws.EightBytesLaws.{fold_all}
use Rattle.parwindow.proofs.crcs.checksum.after_bytes.Goals as goal

pub returns : goal.returns
returns c =
    rw (
      c.after_each.ensures,
      c.after_eights.ensures,
      c.as_chunks.ensures.front,
      c.as_chunks.ensures.back,
    )
    (fold_all c.args.bytes.now (length c.args.bytes.now / 8) c.args.register)
