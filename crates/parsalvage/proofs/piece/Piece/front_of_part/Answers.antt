use Rattle.std.proofs.Common.{◌≡◌, ◌≤◌, ℕ, List, ◌+◌, ◌-◌, length, take, drop, arith, length-drop}
use Rattle.std.proofs.lemmas.List.{length-take-le}
use Rattle.parsalvage.proofs.PieceLaws.{part_of_piece}
use Rattle.parsalvage.proofs.piece.Piece.front_of_part.Goals as goal

pub returns-clause-bytes : goal.returns-clause-bytes
returns-clause-bytes c = λ file piece.
    let place : ℕ = c.args.from - c.args.self.now.base in
    let bytes : List ℕ = c.args.self.now.bytes.now in
    let few : (c.args.from - c.args.self.now.base) + c.min-count.result ≤ length c.args.self.now.bytes.now = omega arith in
    let count : c.args.from - c.args.self.now.base + c.min-count.result - (c.args.from - c.args.self.now.base) ≡ c.min-count.result = omega arith in
    let full : length (take c.min-count.result (drop place bytes)) ≡ c.min-count.result
    = length-take-le c.min-count.result (drop place bytes) (omega (arith, few, length-drop place bytes)) in
    let part = part_of_piece file bytes c.args.self.now.base c.args.from c.min-count.result piece (omega arith) few in
    rw (count, full) part
