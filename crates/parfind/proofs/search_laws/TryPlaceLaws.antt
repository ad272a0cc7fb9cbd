-- Places that are tried one after another make up a step.
use Rattle.std.proofs.Common.{◌≡◌, ◌≢◌, ℕ, ◌+◌, ◌≤◌, List, [], refl, subst, arith, Option, Some, Result, Ok, Err, IfOk}
use Rattle.parshelf.specs.Shelf.{ShelfState, ReadsAs}
use Rattle.parshelf.specs.declared.shelves.reading.ReadFault.{ReadFault}
use Rattle.parfind.specs.Sought.{Sought}
use Rattle.parfind.specs.declared.searches.finder.Step.{Step}
use Rattle.parfind.specs.declared.searches.finder.Step.TheVariants.{Spent}
use Rattle.parfind.specs.declared.searches.finder.Visit.{Visit}
use Rattle.parfind.specs.declared.searches.finder.Visit.TheVariants.{Hit, Passed, End}
use Rattle.parfind.specs.Finders.{FinderState, GoesAlong}
use Rattle.parfind.specs.Moves.{IsWithin, StepMoves, steps_left, Advances}
use Rattle.parfind.specs.NextPlace.{IsNextPlace}
use Rattle.parfind.specs.PlaceVisit.{step_answer, count_of, step_of}
use Rattle.parfind.specs.Points.{search_at}
use Rattle.parfind.specs.Sightings.{sightings_between}
use Rattle.parfind.specs.Steps.{scan_of, StepGives, StepSees}
use Rattle.parfind.proofs.search_laws.AdvanceLaws.{no_more}
use Rattle.parfind.proofs.search_laws.GoesAlongLaws.{goes_still, goes_more, goes_as}
use Rattle.parfind.proofs.track_laws.LaterShelfLaws.{Later, later_only, later_read}
use Rattle.parfind.proofs.search_laws.StepMovesLaws.{PassedTo, passed_none, moves_onward}
use Rattle.parfind.proofs.place_laws.CursorOrderLaws.{From, From-by_test}
use Rattle.parfind.proofs.search_laws.PassUnfitLaws.{next_place_moves, next_place_sees}
use Rattle.parfind.proofs.search_laws.StepLaws.{Leaves, budget_left, leaves_all, leaves_more, moves_before, nearer, advances, then_moves, then_spent, then_advances, then_passed, then_sees, then_gives}
use Rattle.parfind.proofs.place_laws.SightingsBetweenLaws.{none_seen}

-- the clauses of a step with its budget
pub record StepMade
    (sought : Sought) (budget : Option ℕ) (old new : ShelfState) (f g : FinderState) (r : Result Step ReadFault) : Type 0 where
  pub answer : (files : List (List ℕ)) → ReadsAs new files
      → StepGives (scan_of sought files) budget (search_at old f.cursor) r (search_at new g.cursor)
  pub moves : StepMoves old.lengths budget f.cursor r g.cursor
  pub advances : IfOk r (λ step. Advances sought.set budget (search_at old f.cursor) step g.cursor)
  pub along : GoesAlong old new f g r

-- the clauses of a try of a place, with the budget that is left
pub record Tried
    (sought : Sought) (left : Option ℕ) (old new : ShelfState) (f g : FinderState) (r : Result Visit ReadFault) : Type 0 where
  pub sees : (files : List (List ℕ)) → ReadsAs new files → StepSees (scan_of sought files) f.cursor (step_answer r) g.cursor
  pub moves : StepMoves old.lengths (Some (count_of r)) f.cursor (step_answer r) g.cursor
  pub advances : IfOk r (λ visit. Advances sought.set (Some 1) (search_at old f.cursor) (step_of visit) g.cursor)
  pub within : IsWithin (count_of r) left
  pub along : GoesAlong old new f g r

pub tried_is : (sought : Sought) (left : Option ℕ) (old new : ShelfState) (f g : FinderState) (v w : Visit) → v ≡ w
    → Tried sought left old new f g (Ok v) → Tried sought left old new f g (Ok w)
tried_is sought left old new f g v w is tried = subst (λ (x : Visit). Tried sought left old new f g (Ok x)) is tried

-- a result without an error
abbrev pub answered : Result (Unit {0}) ReadFault
answered = Ok tt

-- some places of a budget were passed, with no sighting among them, and the rest of the budget is
-- left
pub record PassedSoFar (sought : Sought) (budget left : Option ℕ) (old mid : ShelfState) (f g : FinderState) : Type 0 where
  pub count : ℕ
  pub leaves : Leaves budget left count
  pub passed : PassedTo old.lengths f.cursor g.cursor count
  pub nearer_is : steps_left sought.set old.lengths g.cursor ≤ steps_left sought.set old.lengths f.cursor
  pub unseen : (files : List (List ℕ)) → ReadsAs mid files → sightings_between (scan_of sought files) f.cursor g.cursor ≡ []
  pub along : GoesAlong old mid f g answered

pub none_so_far : (sought : Sought) (budget : Option ℕ) → budget ≢ Some 0 → (s : ShelfState) (f : FinderState)
    → PassedSoFar sought budget budget s s f f
none_so_far sought budget some s f = record {
  count = 0;
  leaves = leaves_all budget some;
  passed = passed_none s.lengths f.cursor;
  nearer_is = omega arith;
  unseen = λ files _. none_seen (scan_of sought files) f.cursor;
  along = goes_still {A = Unit {0}} s f f tt refl refl refl refl;
}

-- after that, another place is tried

module _ (sought : Sought) (budget left : Option ℕ) (old mid new : ShelfState) (f g h : FinderState)
    (so_far : PassedSoFar sought budget left old mid f g) where
  ends_advances : (r : Result Visit ReadFault) → (step_answer r ≡ Ok Spent → ⊥)
      → IfOk r (λ visit. Advances sought.set (Some 1) (search_at mid g.cursor) (step_of visit) h.cursor)
      → IfOk (step_answer r) (λ step. Advances sought.set budget (search_at old f.cursor) step h.cursor)
  ends_advances (Ok (Hit x)) other next =
      advances sought old mid so_far.along.shelf f.cursor g.cursor h.cursor so_far.nearer_is budget (step_of (Hit x)) (λ e. cc) next
  ends_advances (Ok (Passed n)) other next = absurd (other refl)
  ends_advances (Ok End) other next = tt
  ends_advances (Err fault) other next = tt

  goes_with : (r : Result Visit ReadFault) → GoesAlong mid new g h r → GoesAlong old new f h (step_answer r)
  goes_with (Ok visit) along = goes_as old new f h visit (step_of visit) (goes_more {A = Unit {0}} old mid new f g h tt (Ok visit) so_far.along along)
  goes_with (Err fault) along =
      let all = goes_more {A = Unit {0}} old mid new f g h tt (Err fault) so_far.along along in
      record { shelf = all.shelf; reads = all.reads; opening_is = all.opening_is; mode_is = all.mode_is; no_fewer = all.no_fewer }

  -- each result of a try, except that places were passed, ends the step
  pub tried_ends : (r : Result Visit ReadFault) → (step_answer r ≡ Ok Spent → ⊥) → Tried sought left mid new g h r
      → StepMade sought budget old new f h (step_answer r)
  tried_ends r other tried =
      let reads = so_far.along.shelf in
      let all = then_moves sought old mid reads budget left f.cursor g.cursor so_far.count so_far.leaves so_far.passed h.cursor (count_of r)
      tried.within (step_answer r) other tried.moves in
      let along = goes_with r tried.along in
      record {
        answer = λ files reads_as.
            let later = later_read mid new h.cursor.file r tried.along.shelf in
            then_gives sought old mid reads budget left f.cursor g.cursor so_far.count so_far.leaves so_far.passed h.cursor (count_of r)
            tried.within files (so_far.unseen files (later.older files reads_as)) (step_answer r) tried.moves (tried.sees files reads_as)
            new reads_as all along.shelf;
        moves = all;
        advances = ends_advances r other tried.advances;
        along = along;
      }

  -- if the places that were passed use the budget up, the step ends
  pub tried_spends : (m : ℕ) → budget_left left m ≡ Some 0 → Tried sought left mid new g h (Ok (Passed m))
      → StepMade sought budget old new f h (Ok Spent)
  tried_spends m none tried =
      let reads = so_far.along.shelf in
      let all = then_spent sought old mid reads budget left f.cursor g.cursor so_far.count so_far.leaves so_far.passed h.cursor m
      tried.within none tried.moves in
      let along = goes_with (Ok (Passed m)) tried.along in
      record {
        answer = λ files reads_as.
            let later : Later mid new = later_only mid new tried.along.shelf in
            then_gives sought old mid reads budget left f.cursor g.cursor so_far.count so_far.leaves so_far.passed h.cursor m
            tried.within files (so_far.unseen files (later.older files reads_as)) (Ok Spent) tried.moves (tried.sees files reads_as)
            new reads_as all along.shelf;
        moves = all;
        advances = then_advances sought old mid reads budget left f.cursor g.cursor so_far.count so_far.leaves so_far.passed h.cursor m
            tried.within none so_far.nearer_is tried.advances;
        along = along;
      }

  -- if they leave some of the budget, the step goes on
  pub tried_passes : (m : ℕ) → budget_left left m ≢ Some 0 → Tried sought left mid new g h (Ok (Passed m))
      → PassedSoFar sought budget (budget_left left m) old new f h
  tried_passes m some tried =
      let reads = so_far.along.shelf in
      record {
        count = so_far.count + m;
        leaves = leaves_more budget left so_far.count m so_far.leaves tried.within some;
        passed = then_passed sought old mid reads budget left f.cursor g.cursor so_far.count so_far.leaves so_far.passed h.cursor m
            tried.within tried.moves;
        nearer_is =
            let less = nearer sought old mid reads f.cursor g.cursor h.cursor so_far.nearer_is tried.advances in
            omega (arith, less);
        unseen = λ files reads_as.
            let later : Later mid new = later_only mid new tried.along.shelf in
            then_sees sought old mid reads budget left f.cursor g.cursor so_far.count so_far.leaves so_far.passed h.cursor m
            tried.within files (so_far.unseen files (later.older files reads_as)) (Ok Spent) tried.moves (tried.sees files reads_as);
        along = goes_as {B = Unit {0}} old new f h (Passed m) tt
            (goes_more {A = Unit {0}} old mid new f g h tt (Ok (Passed m)) so_far.along tried.along);
      }

-- a try at the next place, after the window was brought there, is a try from the cursor before it
module _ {A : Type 0} (sought : Sought) (left : Option ℕ) (old mid new : ShelfState) (f g h : FinderState) (x : A)
    (along : GoesAlong old mid f g (Ok x)) (next : IsNextPlace old.lengths f.cursor g.cursor) where
  next_moves : (r : Result Visit ReadFault) → StepMoves mid.lengths (Some (count_of r)) g.cursor (step_answer r) h.cursor
      → StepMoves old.lengths (Some (count_of r)) f.cursor (step_answer r) h.cursor
  next_moves r moves =
      next_place_moves old.lengths f.cursor g.cursor h.cursor next r
      (moves_before sought old mid along.shelf (Some (count_of r)) g.cursor h.cursor (step_answer r) moves)

  next_advances : (r : Result Visit ReadFault)
      → IfOk r (λ visit. Advances sought.set (Some 1) (search_at mid g.cursor) (step_of visit) h.cursor)
      → IfOk r (λ visit. Advances sought.set (Some 1) (search_at old f.cursor) (step_of visit) h.cursor)
  next_advances (Ok (Hit y)) less =
      let fewer = no_more sought.set old.lengths f.cursor g.cursor (From-by_test f.cursor g.cursor next.onward) in
      advances sought old mid along.shelf f.cursor g.cursor h.cursor fewer (Some 1) (step_of (Hit y)) (λ e. cc) less
  next_advances (Ok (Passed n)) less =
      let fewer = no_more sought.set old.lengths f.cursor g.cursor (From-by_test f.cursor g.cursor next.onward) in
      nearer sought old mid along.shelf f.cursor g.cursor h.cursor fewer less
  next_advances (Ok End) less = tt
  next_advances (Err fault) less = tt

  pub tried_next : (r : Result Visit ReadFault) → Tried sought left mid new g h r → Tried sought left old new f h r
  tried_next r tried = record {
    sees = λ files reads_as.
        let later = later_read mid new h.cursor.file r tried.along.shelf in
        let before : ReadsAs old files = along.shelf.older files (later.older files reads_as) in
        let on : From g.cursor h.cursor = moves_onward mid.lengths (Some (count_of r)) g.cursor h.cursor (step_answer r) tried.moves in
        next_place_sees old.lengths f.cursor g.cursor h.cursor next sought files before.lengths (step_answer r) on
        (tried.sees files reads_as);
    moves = next_moves r tried.moves;
    advances = next_advances r tried.advances;
    within = tried.within;
    along = goes_more old mid new f g h x r along tried.along;
  }
