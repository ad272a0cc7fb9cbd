-- Many places that are passed at once, and steps that begin at the next place.
use Rattle.std.proofs.Common.{◌≡◌, ℕ, zero, suc, ◌+◌, ◌-◌, ◌<◌, ◌≤◌, List, [], length, map, sym, ap, ◌∙◌, subst, arith, slice_index, Some, None, Result, Ok, Err, inl, inr}
use Rattle.std.proofs.lemmas.Bool.{cases_eq, cases_lt}
use Rattle.parshelf.specs.Shelf.{file_of}
use Rattle.parshelf.specs.declared.shelves.reading.ReadFault.{ReadFault}
use Rattle.parfind.specs.Sought.{Sought}
use Rattle.parwindow.specs.Least.{IsLeastFrom}
use Rattle.parfind.specs.declared.cursors.cursor.Cursor.{Cursor}
use Rattle.parfind.specs.Tracks.{HaveNoComparedCrc}
use Rattle.parfind.specs.declared.searches.finder.Step.{Step}
use Rattle.parfind.specs.declared.searches.finder.Step.TheVariants.{Hit, Spent, Done}
use Rattle.parfind.specs.Order.{cursor_of}
use Rattle.parfind.specs.Places.{cursor_past, place_at}
use Rattle.parfind.specs.Sightings.{Scan, content_of, is_slice_seen, sightings_of, sightings_between}
use Rattle.parfind.specs.Moves.{PassesAll, StepMoves}
use Rattle.parfind.specs.Steps.{scan_of, StepSees}
use Rattle.parfind.specs.NextPlace.{IsAtPlace, IsNextPlace}
use Rattle.parfind.specs.PlaceVisit.{step_answer, count_of}
use Rattle.parfind.specs.declared.searches.finder.Visit.{Visit}
use Rattle.parfind.proofs.place_laws.CursorOrderLaws.{From, is_from-true, From-by_test, From-refl}
use Rattle.parfind.proofs.place_laws.RisingLaws.{between_and_between, none_between}
use Rattle.parfind.proofs.place_laws.SightingLaws.{Rises-sightings_of}
use Rattle.parfind.proofs.place_laws.SeenLaws.{seen_compared}
use Rattle.parfind.proofs.place_laws.PlaceLaws.{sighting_seen, next_over}
use Rattle.parfind.proofs.search_laws.StepMovesLaws.{PassedTo, passed_by, more_moves, more_spent}
use Rattle.parfind.proofs.place_laws.SightingsBetweenLaws.{more_sees}
use Rattle.parfind.proofs.search_laws.VisitLaws.{visit_past, visit_stopped, visit_passes}

-- the cursor n offsets after another one, before all slices
abbrev pub cursor_on : Cursor → ℕ → Cursor
cursor_on d n = record { file = d.file; offset = d.offset + n; slice = 0 }

pub next_here : (lengths : List ℕ) (d : Cursor) → d.file < length lengths → IsAtPlace lengths d → IsNextPlace lengths d d
next_here lengths d counted there = record {
  onward = is_from-true d d (From-refl d);
  there = there;
  counted = counted;
  least = λ e on at. on;
}

pub From-on : (d : Cursor) (m n : ℕ) → m ≤ n → From (cursor_on d m) (cursor_on d n)
From-on d m n less = record { by_file = omega arith; by_offset = λ _. omega arith; by_slice = λ _ _. omega arith }

-- the cursor passes n places from d on, if all of them are in d's file
pub passes_many : (lengths : List ℕ) (d : Cursor) (n : ℕ) → d.file < length lengths → d.offset + suc n ≤ slice_index lengths d.file
    → PassesAll lengths (suc n) d (cursor_on d (suc n))
passes_many lengths d zero counted inside = visit_passes lengths d d (next_here lengths d counted (omega arith))
passes_many lengths d (suc n) counted inside =
    let first : PassesAll lengths (suc n) d (cursor_on d (suc n)) = passes_many lengths d n counted (omega arith) in
    let e : Cursor = cursor_on d (suc n) in
    let one : PassesAll lengths 1 e (cursor_past (place_at e)) = visit_passes lengths e e (next_here lengths e counted (omega arith)) in
    let place : d.offset + suc n + 1 ≡ d.offset + suc (suc n) = omega arith in
    let all : PassesAll lengths (suc (suc n)) d (cursor_past (place_at e)) =
    more_spent lengths d e (suc n) (passed_by lengths (suc n) d e first) (suc (suc n)) 1 (cursor_past (place_at e)) (omega arith) one in
    subst (λ (o : ℕ). PassesAll lengths (suc (suc n)) d (record { file = d.file; offset = o; slice = 0 })) place all

pub passes_some : (lengths : List ℕ) (d : Cursor) (n : ℕ) → 0 < n → d.file < length lengths → d.offset + n ≤ slice_index lengths d.file
    → PassesAll lengths n d (cursor_on d n)
passes_some lengths d zero some counted inside = absurd (omega arith)
passes_some lengths d (suc n) some counted inside = passes_many lengths d n counted inside

-- no sighting lies between places whose windows don't have the CRC-32 of a slice
pub on_unseen : (scan : Scan) (d : Cursor) (n : ℕ) → 0 < n → HaveNoComparedCrc scan.sought (content_of scan d.file) d.offset n
    → sightings_between scan (cursor_on d 1) (cursor_on d n) ≡ []
on_unseen scan d n some none =
    none_between cursor_of (cursor_on d 1) (cursor_on d n) (sightings_of scan)
    (λ y has after. elim (cases_eq d.file y.file) [
      | inl f ↦ record {
        by_file = omega arith;
        by_offset = λ _. elim (cases_lt y.offset (d.offset + n)) [
          | inl less ↦
              let low : d.offset + 1 ≤ y.offset = omega (arith, after.by_offset f) in
              let place : d.offset + (y.offset - d.offset) ≡ y.offset = omega arith in
              absurd (seen_compared scan.sought (content_of scan y.file) y.offset y.slice (sighting_seen scan y has)
              (rw (place, f) at (none (y.offset - d.offset) (omega arith) (omega arith))))
          | inr more ↦ more
        ];
        by_slice = λ _ _. omega arith;
      }
      | inr other ↦ record { by_file = after.by_file; by_offset = λ e. absurd (other e); by_slice = λ _ _. omega arith }
    ])

module _ (sought : Sought) (files : List (List ℕ)) (lengths : List ℕ) (same : map length files ≡ lengths) (d : Cursor)
    (next : IsNextPlace lengths d d) where
  -- no sighting lies at n places if no slice is seen at the first, and the windows of the others
  -- don't have the CRC-32 of a slice
  pub many_unseen : (n : ℕ) → 0 < n → IsLeastFrom (is_slice_seen sought (file_of files d.file) d.offset) d.slice None
      → HaveNoComparedCrc sought (file_of files d.file) d.offset n → sightings_between (scan_of sought files) d (cursor_on d n) ≡ []
  many_unseen n some unseen none =
      let here : sightings_between (scan_of sought files) d (cursor_on d 1) ≡ [] = visit_past sought files lengths same d d next unseen in
      let to : From d (cursor_on d 1) = record { by_file = omega arith; by_offset = λ _. omega arith; by_slice = λ _ e. absurd (omega arith) } in
      sym (between_and_between cursor_of d (cursor_on d 1) (cursor_on d n) to (From-on d 1 n (omega arith)) (sightings_of (scan_of sought files)) (Rises-sightings_of (scan_of sought files)))
      ∙ (rw here (on_unseen (scan_of sought files) d n some none))

-- a step from the next place is a step from a cursor before it
module _ (lengths : List ℕ) (c d e : Cursor) (next : IsNextPlace lengths c d) where
  passed_next : PassedTo lengths c d 0
  passed_next = record {
    onward = From-by_test c d next.onward;
    count = ap length (next_over lengths c d next);
    stays = inr next.counted;
  }

  moves_next : (answer : Result Step ReadFault) (n : ℕ) → StepMoves lengths (Some n) d answer e → StepMoves lengths (Some n) c answer e
  moves_next (Ok (Hit x)) n moves = more_moves lengths c d 0 passed_next (Some n) n (Ok (Hit x)) e (omega arith) (λ h. cc) moves
  moves_next (Ok Spent) n moves = more_spent lengths c d 0 passed_next n n e (omega arith) moves
  moves_next (Ok Done) n moves = more_moves lengths c d 0 passed_next (Some n) n (Ok Done) e (omega arith) (λ h. cc) moves
  moves_next (Err fault) n moves = more_moves lengths c d 0 passed_next (Some n) n (Err fault) e (omega arith) (λ h. cc) moves

  pub next_place_moves : (tried : Result Visit ReadFault) → StepMoves lengths (Some (count_of tried)) d (step_answer tried) e
      → StepMoves lengths (Some (count_of tried)) c (step_answer tried) e
  next_place_moves tried moves = moves_next (step_answer tried) (count_of tried) moves

  pub next_place_sees : (sought : Sought) (files : List (List ℕ)) → map length files ≡ lengths
      → (answer : Result Step ReadFault) → From d e → StepSees (scan_of sought files) d answer e → StepSees (scan_of sought files) c answer e
  next_place_sees sought files same answer on sees =
      more_sees (scan_of sought files) c d (From-by_test c d next.onward) (visit_stopped sought files lengths same c d next) answer e on sees
