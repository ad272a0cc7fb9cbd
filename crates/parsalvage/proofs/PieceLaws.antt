-- A part of a piece of a file is a part of the file, and what follows it there is the rest. The piece stays one of the
-- file when more is read.
use Rattle.std.proofs.Common.{◌≡◌, ◌≤◌, ◌+◌, ◌-◌, ◌∙◌, ℕ, List, ◌++◌, length, take, drop, ap, sym, arith}
use Rattle.std.proofs.Math.Seq.{take-add}
use Rattle.std.proofs.lemmas.List.{drop-take, take-take, drop-drop}
use Rattle.parshelf.specs.Shelf.{ShelfState}
use Rattle.parsalvage.specs.declared.piece.Piece.{Piece}
use Rattle.parsalvage.specs.Pieces.{IsPiece, IsPieceOf}
use Rattle.parsalvage.proofs.HandLaws.{Handed, Hands-lengths}

pub part_of_piece : (file bytes : List ℕ) (base from size : ℕ) → IsPiece file base bytes → base ≤ from
    → (from - base) + size ≤ length bytes → take size (drop (from - base) bytes) ≡ take size (drop from file)
part_of_piece file bytes base from size piece low fits =
    let k : ℕ = from - base in
    let split : length bytes ≡ (from - base) + (length bytes - (from - base)) = omega arith in
    let place : base + (from - base) ≡ from = omega arith in
    ap (λ (xs : List ℕ). take size (drop (from - base) xs)) piece
    ∙ (ap (λ (n : ℕ). take size (drop (from - base) (take n (drop base file)))) split
    ∙ (ap (take size) (drop-take (from - base) (length bytes - (from - base)) (drop base file))
    ∙ (take-take size (length bytes - (from - base)) (drop (from - base) (drop base file)) (omega arith)
    ∙ (ap (take size) (drop-drop (from - base) base file)
    ∙ ap (λ (n : ℕ). take size (drop n file)) place))))

-- the front of a part, followed by the bytes of the file after that front, is the whole part
pub front_then_rest : (file front : List ℕ) (from size : ℕ) → front ≡ take (length front) (drop from file) → length front ≤ size
    → front ++ take (size - length front) (drop (from + length front) file) ≡ take size (drop from file)
front_then_rest file front from size is few =
    let part : List ℕ = drop from file in
    let all : length front + (size - length front) ≡ size = omega arith in
    ap (λ (xs : List ℕ). xs ++ take (size - length front) (drop (from + length front) file)) is
    ∙ (ap (λ (xs : List ℕ). take (length front) part ++ take (size - length front) xs) (sym (drop-drop (length front) from file))
    ∙ (sym (take-add (length front) (size - length front) part)
    ∙ ap (λ (n : ℕ). take n part) all))

-- more of the file was read
pub IsPieceOf-read : (s t : ShelfState) (piece : Piece) (limit : List ℕ → ℕ) → Handed s t piece.file limit → IsPieceOf s piece → IsPieceOf t piece
IsPieceOf-read s t piece limit h is = record {
  known = rw (Hands-lengths s t piece.file limit h) is.known;
  is_piece = λ files reads. is.is_piece files (h.0.older files reads);
}
