use Rattle.std.proofs.Common.{arith}
use Rattle.std.proofs.lemmas.Fmt.{length-decimal-le}
use Rattle.std.proofs.lemmas.List.{length-append}
use Rattle.hex.specs.Hex.{lower_digits}
use Rattle.hex.proofs.HexLemmas.{length-encode_with}
use Rattle.parfind.proofs.cursors.cursor.Cursor.text.Goals as goal

pub returns-clause-short : goal.returns-clause-short
returns-clause-short c =
    let at = c.args.self in
    let set = length-encode_with lower_digits c.args.set.0 in
    let list = length-encode_with lower_digits c.args.list.0 in
    let file = length-decimal-le 10 at.file (omega arith) (omega arith) (omega arith) in
    let offset = length-decimal-le 20 at.offset (omega arith) (omega arith) (omega arith) in
    let slice = length-decimal-le 10 at.slice (omega arith) (omega arith) (omega arith) in
    rw (c.into_bytes.ensures.value, c.in_ok-text.ensures.ok) (simp length-append (omega arith))
