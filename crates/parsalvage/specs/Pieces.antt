-- Pieces of a file that were read already.
use Rattle.std.specs.Prelude.{◌≡◌, ◌<◌, ℕ, List, length, take, drop}
use Rattle.parshelf.specs.Shelf.{ShelfState, ReadsAs, file_of}
use Rattle.parsalvage.specs.declared.piece.Piece.{Piece}

-- the file has these bytes from offset `base` on
abbrev pub IsPiece : List ℕ → ℕ → List ℕ → Type 0
IsPiece file base bytes = bytes ≡ take (length bytes) (drop base file)

-- the file of the piece is one of the shelf's, and the piece is at its place in this file of any
-- files that are consistent with the reads so far
pub record IsPieceOf (shelf : ShelfState) (piece : Piece) : Type 0 where
  pub known : piece.file < length shelf.lengths
  pub is_piece : (files : List (List ℕ)) → ReadsAs shelf files
      → IsPiece (file_of files piece.file) piece.base piece.bytes.now
