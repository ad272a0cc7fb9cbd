-- A step returns exactly the sightings that it passes.
use Rattle.std.proofs.Common.{◌≡◌, ℕ, true, false, [], ◌∷◌, filter, ap, ◌∙◌, Option, Result, Ok, Err}
use Rattle.parshelf.specs.declared.shelves.reading.ReadFault.{ReadFault}
use Rattle.parfind.specs.declared.cursors.cursor.Cursor.{Cursor}
use Rattle.parfind.specs.declared.searches.finder.Step.{Step}
use Rattle.parfind.specs.declared.searches.finder.Step.TheVariants.{Hit, Spent, Done}
use Rattle.parfind.specs.Order.{is_before, is_from, cursor_of}
use Rattle.parfind.specs.Sightings.{Scan, sightings_of, sightings_from, sightings_between}
use Rattle.parfind.specs.Moves.{StepMoves}
use Rattle.parfind.specs.Steps.{lengths_of, hit_of, StepSees, StepHandsOut}
use Rattle.parfind.proofs.place_laws.CursorOrderLaws.{Before, is_before-true, is_before-false, From-by_test, is_from-true, Before-after}
use Rattle.parfind.proofs.place_laws.ItemLaws.{Each-weaker, Each-passes, filter_none}
use Rattle.parfind.proofs.search_laws.StepMovesLaws.{moves_onward}

-- none of the sightings from a cursor on is before it
none_before : (scan : Scan) (d : Cursor) → filter (λ x. is_before (cursor_of x) d) (sightings_from scan d) ≡ []
none_before scan d =
    filter_none (λ x. is_before (cursor_of x) d) (sightings_from scan d)
    (Each-weaker (λ x. is_from d (cursor_of x) ≡ true) (λ x. is_before (cursor_of x) d ≡ false)
    (λ x h. is_before-false (cursor_of x) d (From-by_test d (cursor_of x) h))
    (sightings_from scan d) (Each-passes (λ x. is_from d (cursor_of x)) (sightings_of scan)))

handed : (scan : Scan) (budget : Option ℕ) (c d : Cursor) (answer : Result Step ReadFault)
    → StepMoves (lengths_of scan) budget c answer d → StepSees scan c answer d → sightings_between scan c d ≡ hit_of answer
handed scan budget c d (Ok (Hit x)) moves sees =
    let before : Before (cursor_of x) d = rw moves.after (Before-after x) in
    ap (λ xs. filter (λ y. is_before (cursor_of y) d) xs) sees
    ∙ (rw (is_before-true (cursor_of x) d before) (ap (λ xs. x ∷ xs) (none_before scan d)))
handed scan budget c d (Ok Spent) moves sees = sees
handed scan budget c d (Ok Done) moves sees = ap (λ xs. filter (λ y. is_before (cursor_of y) d) xs) sees
handed scan budget c d (Err fault) moves sees = sees

pub step_hands_out : StepHandsOut
step_hands_out scan budget old new answer gives = (
  is_from-true old.cursor new.cursor (moves_onward (lengths_of scan) budget old.cursor new.cursor answer gives.moves),
  handed scan budget old.cursor new.cursor answer gives.moves gives.sees,
)
