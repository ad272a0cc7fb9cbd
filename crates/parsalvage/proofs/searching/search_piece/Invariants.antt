use Rattle.parsalvage.proofs.SearchLaws.{SearchedTo}
use Rattle.parsalvage.proofs.searching.search_piece.Given as goal

-- the offsets of the chunk before those that are left were searched
abbrev pub invariant-loop-place : goal.invariant-loop-place
invariant-loop-place g l =
    SearchedTo (g.H.Shelf.state l.fn.shelf) l.piece.file l.piece.base l.piece.bytes.now
    (record { shelf = g.H.Shelf.state l.shelf; places = l.place-iterator; found = l.found })
