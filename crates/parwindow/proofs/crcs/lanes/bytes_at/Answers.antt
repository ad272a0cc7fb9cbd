use Rattle.std.proofs.lemmas.Simd.{length-chunk, get_or-chunk}
use Rattle.parwindow.proofs.crcs.lanes.bytes_at.Goals as goal

pub returns : goal.returns
returns c = record {
  long = length-chunk c.args.at 16 c.args.bytes.now c.requires;
  each = λ i l. get_or-chunk c.args.at 16 c.args.bytes.now i 0 l;
}
