-- The clauses of a step follow from its move, the sightings that it sees and the bytes that it
-- reads.
use Rattle.std.proofs.Common.{◌≡◌, ◌≢◌, ℕ, zero, suc, ◌+◌, ◌-◌, ◌<◌, ◌≤◌, true, nat_eq, List, [], length, take, refl, sym, ap, ◌∙◌, subst, arith, Option, Some, None, Result, Ok, Err, option_map}
use Rattle.std.specs.List.{All, Contains}
use Rattle.std.specs.Option.{option_eq}
use Rattle.std.proofs.lemmas.Bool.{eqb-true}
use Rattle.std.proofs.lemmas.List.Elements.{All-contains}
use Rattle.parshelf.specs.Shelf.{ShelfState, ReadsAs}
use Rattle.parshelf.specs.Reads.{ReadsOnly, ReadsFile}
use Rattle.parshelf.specs.declared.shelves.reading.ReadFault.{ReadFault}
use Rattle.parshelf.specs.declared.shelves.reading.ReadFault.TheVariants.{Failed, Ended}
use Rattle.parfind.specs.Sought.{Sought}
use Rattle.parfind.specs.declared.cursors.cursor.Cursor.{Cursor}
use Rattle.parfind.specs.declared.cursors.sighting.Sighting.{Sighting}
use Rattle.parfind.specs.Fetched.{Place}
use Rattle.parfind.specs.declared.searches.finder.Step.{Step}
use Rattle.parfind.specs.declared.searches.finder.Step.TheVariants.{Hit, Spent, Done}
use Rattle.parfind.specs.Order.{is_before, is_from, cursor_of}
use Rattle.parfind.specs.Places.{cursor_at, place_of, place_start, places_ahead, places_between}
use Rattle.parfind.specs.Sightings.{sightings_of, sightings_from, sightings_between}
use Rattle.parfind.specs.Moves.{IsWithin, StepMoves, steps_left, Advances}
use Rattle.parfind.specs.Points.{SearchPoint, search_at}
use Rattle.parfind.specs.Steps.{scan_of, lengths_of, StepGives, StepSees, StepCounts, SpentSeesNone}
use Rattle.parfind.proofs.track_laws.LaterShelfLaws.{later_read}
use Rattle.parfind.proofs.place_laws.CursorOrderLaws.{From, Before-by_test, From-by_test, not_both}
use Rattle.parfind.proofs.place_laws.ItemLaws.{Each-weaker, Each-passes, All-from}
use Rattle.parfind.proofs.search_laws.StepMovesLaws.{PassedTo, passes_onward, passes_front, moves_onward, passed_by, passed_more, more_moves, more_spent}
use Rattle.parfind.proofs.place_laws.SightingsBetweenLaws.{same_left, more_sees}

From-start_at : (e : Cursor) (x : Sighting) → From e (cursor_of x) → From (place_start e) (cursor_at (place_of x))
From-start_at e x on = record { by_file = on.by_file; by_offset = on.by_offset; by_slice = λ _ _. omega arith }

-- if a budget is spent, no sighting is at its places
pub spent_sees_none : SpentSeesNone
spent_sees_none scan n old new gives =
    let c : Cursor = old.cursor in
    let d : Cursor = new.cursor in
    let front : List Place = take n (places_ahead (lengths_of scan) c) in
    let Early : Place → Type 0 = λ p. is_before (cursor_at p) (place_start d) ≡ true in
    let early : All Early front =
    subst (All Early) (passes_front (lengths_of scan) n c d gives.moves)
    (All-from Early (places_between (lengths_of scan) c d)
    (Each-passes (λ p. is_before (cursor_at p) (place_start d)) (places_ahead (lengths_of scan) c))) in
    let Late : Sighting → Type 0 = λ x. is_from d (cursor_of x) ≡ true in
    let Elsewhere : Sighting → Type 0 = λ x. ¬ Contains front (place_of x) in
    let late : (x : Sighting) → Late x → Elsewhere x = λ x from has.
    not_both (cursor_at (place_of x)) (place_start d)
    (Before-by_test (cursor_at (place_of x)) (place_start d) (All-contains Early front (place_of x) early has))
    (From-start_at d x (From-by_test d (cursor_of x) from)) in
    subst (All Elsewhere) (sym (same_left scan c d (passes_onward (lengths_of scan) n c d gives.moves) gives.sees))
    (All-from Elsewhere (sightings_from scan d)
    (Each-weaker Late Elsewhere late (sightings_from scan d) (Each-passes (λ x. is_from d (cursor_of x)) (sightings_of scan))))

-- the counts follow from what is read; an unexpected end isn't consistent with any files
counts_of : (old new : SearchPoint) (files : List (List ℕ)) → ReadsAs new.shelf files → (answer : Result Step ReadFault)
    → ReadsFile new.cursor.file old.shelf new.shelf answer → StepCounts old answer new
counts_of old new files reads (Ok step) leaves = leaves
counts_of old new files reads (Err Failed) leaves = leaves
counts_of old new files reads (Err Ended) leaves = leaves.none refl files reads

-- the move of a step depends only on the shelf's lengths, which are those of the files
pub gives_by : (sought : Sought) (files : List (List ℕ)) (budget : Option ℕ) (old new : SearchPoint) → ReadsAs new.shelf files
    → (answer : Result Step ReadFault) → StepMoves old.shelf.lengths budget old.cursor answer new.cursor
    → StepSees (scan_of sought files) old.cursor answer new.cursor
    → ReadsFile new.cursor.file old.shelf new.shelf answer → StepGives (scan_of sought files) budget old answer new
gives_by sought files budget old new reads answer moves sees leaves =
    let later = later_read old.shelf new.shelf new.cursor.file answer leaves in record {
      moves = subst (λ (ns : List ℕ). StepMoves ns budget old.cursor answer new.cursor) (sym (reads.lengths ∙ later.lengths)) moves;
      sees = sees;
      counts = counts_of old new files reads answer leaves;
    }

-- the same step over a shelf in which only bytes were read since

module _ (sought : Sought) (old mid : ShelfState) (reads : ReadsOnly old mid) where
  pub moves_before : (budget : Option ℕ) (c d : Cursor) (answer : Result Step ReadFault) → StepMoves mid.lengths budget c answer d
      → StepMoves old.lengths budget c answer d
  moves_before budget c d answer moves =
      subst (λ (ns : List ℕ). StepMoves ns budget c answer d) (ap (λ (s : ShelfState). s.lengths) reads.counts) moves

  -- the search comes nearer to its end
  module _ (c d e : Cursor) (near : steps_left sought.set old.lengths d ≤ steps_left sought.set old.lengths c) where
    pub nearer : Advances sought.set (Some 1) (search_at mid d) Spent e → steps_left sought.set old.lengths e < steps_left sought.set old.lengths c
    nearer next =
        let same : mid.lengths ≡ old.lengths = ap (λ (s : ShelfState). s.lengths) reads.counts in
        let now : steps_left sought.set old.lengths e < steps_left sought.set old.lengths d = rw same at next in
        omega arith

    pub advances : (budget : Option ℕ) (step : Step) → (step ≡ Spent → ⊥) → Advances sought.set (Some 1) (search_at mid d) step e
        → Advances sought.set budget (search_at old c) step e
    advances budget (Hit x) other next =
        (rw (ap (λ (s : ShelfState). length s.lengths) reads.counts) at next.0, next.1, nearer next.2)
    advances budget Spent other next = absurd (other refl)
    advances budget Done other next = tt

-- k places of a budget were passed, and the rest of it is left
abbrev pub Leaves : Option ℕ → Option ℕ → ℕ → Type 0
Leaves None None k = Unit {0}
Leaves None (Some left) k = ⊥
Leaves (Some n) None k = ⊥
Leaves (Some n) (Some left) k = (k + left ≡ n) × (0 < left)

-- the rest of a budget after a number of places
abbrev pub budget_left : Option ℕ → ℕ → Option ℕ
budget_left left m = option_map (λ places. places - m) left

pub none_left : (left : Option ℕ) → option_eq nat_eq left (Some 0) ≡ true → left ≡ Some 0
none_left None h = cc
none_left (Some n) h = ap (λ (m : ℕ). Some m) (eqb-true n 0 h)

pub leaves_all : (budget : Option ℕ) → budget ≢ Some 0 → Leaves budget budget 0
leaves_all None some = tt
leaves_all (Some zero) some = absurd (some refl)
leaves_all (Some (suc n)) some = (omega arith, omega arith)

pub leaves_some : (budget left : Option ℕ) (k : ℕ) → Leaves budget left k → left ≢ Some 0
leaves_some None None k leaves none = cc
leaves_some None (Some left) k leaves none = absurd leaves
leaves_some (Some n) None k leaves none = absurd leaves
leaves_some (Some n) (Some left) k leaves none = let last : left ≡ 0 = cc in absurd (omega (arith, leaves.1))

pub leaves_one : (budget left : Option ℕ) (k : ℕ) → Leaves budget left k → IsWithin 1 left
leaves_one budget None k leaves = tt
leaves_one None (Some left) k leaves = absurd leaves
leaves_one (Some n) (Some left) k leaves = leaves.1

leaves_within : (budget left : Option ℕ) (k m : ℕ) → Leaves budget left k → IsWithin m left → IsWithin (k + m) budget
leaves_within None left k m leaves within = tt
leaves_within (Some n) None k m leaves within = absurd leaves
leaves_within (Some n) (Some left) k m leaves within = omega (arith, leaves.0)

pub leaves_more : (budget left : Option ℕ) (k m : ℕ) → Leaves budget left k → IsWithin m left → budget_left left m ≢ Some 0
    → Leaves budget (budget_left left m) (k + m)
leaves_more None None k m leaves within some = tt
leaves_more None (Some left) k m leaves within some = leaves
leaves_more (Some n) None k m leaves within some = leaves
leaves_more (Some n) (Some left) k m leaves within some =
    let more : left - m ≢ 0 = λ e. some (ap (λ (j : ℕ). Some j) e) in
    (omega (arith, leaves.0), omega arith)

leaves_none : (budget left : Option ℕ) (k m : ℕ) → Leaves budget left k → IsWithin m left → budget_left left m ≡ Some 0 → budget ≡ Some (k + m)
leaves_none None None k m leaves within none = cc
leaves_none None (Some left) k m leaves within none = absurd leaves
leaves_none (Some n) None k m leaves within none = absurd leaves
leaves_none (Some n) (Some left) k m leaves within none =
    let last : left - m ≡ 0 = cc in
    ap (λ (j : ℕ). Some j) (omega (arith, leaves.0))

-- a step of m places, after k places of a budget were passed
module _ (sought : Sought) (old mid : ShelfState) (reads : ReadsOnly old mid) (budget left : Option ℕ) (c d : Cursor) (k : ℕ)
    (leaves : Leaves budget left k) (w : PassedTo old.lengths c d k) (e : Cursor) (m : ℕ) (within : IsWithin m left) where
  pub then_moves : (answer : Result Step ReadFault) → (answer ≡ Ok Spent → ⊥) → StepMoves mid.lengths (Some m) d answer e
      → StepMoves old.lengths budget c answer e
  then_moves answer other moves =
      more_moves old.lengths c d k w budget m answer e (leaves_within budget left k m leaves within) other
      (moves_before sought old mid reads (Some m) d e answer moves)

  pub then_spent : budget_left left m ≡ Some 0 → StepMoves mid.lengths (Some m) d (Ok Spent) e → StepMoves old.lengths budget c (Ok Spent) e
  then_spent none moves =
      rw (leaves_none budget left k m leaves within none)
      (more_spent old.lengths c d k w (k + m) m e refl (moves_before sought old mid reads (Some m) d e (Ok Spent) moves))

  pub then_advances : budget_left left m ≡ Some 0 → steps_left sought.set old.lengths d ≤ steps_left sought.set old.lengths c
      → Advances sought.set (Some 1) (search_at mid d) Spent e → Advances sought.set budget (search_at old c) Spent e
  then_advances none near next = rw (leaves_none budget left k m leaves within none) (nearer sought old mid reads c d e near next)

  pub then_passed : StepMoves mid.lengths (Some m) d (Ok Spent) e → PassedTo old.lengths c e (k + m)
  then_passed moves =
      passed_more old.lengths c d e k m w
      (passed_by old.lengths m d e (moves_before sought old mid reads (Some m) d e (Ok Spent) moves))

  module _ (files : List (List ℕ)) (unseen : sightings_between (scan_of sought files) c d ≡ []) (answer : Result Step ReadFault)
      (moves : StepMoves mid.lengths (Some m) d answer e) (sees : StepSees (scan_of sought files) d answer e) where
    pub then_sees : StepSees (scan_of sought files) c answer e
    then_sees =
        let on : From d e = moves_onward old.lengths (Some m) d e answer (moves_before sought old mid reads (Some m) d e answer moves) in
        more_sees (scan_of sought files) c d w.onward unseen answer e on sees

    pub then_gives : (new : ShelfState) → ReadsAs new files → StepMoves old.lengths budget c answer e
        → ReadsFile e.file old new answer → StepGives (scan_of sought files) budget (search_at old c) answer (search_at new e)
    then_gives new reads_as all more =
        gives_by sought files budget (search_at old c) (search_at new e) reads_as answer all then_sees more
