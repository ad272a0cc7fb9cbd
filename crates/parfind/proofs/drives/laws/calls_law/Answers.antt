-- Calls of a search, one after another.
use Rattle.std.proofs.Common.{◌≡◌, ℕ, ◌+◌, ◌<◌, List, [], ◌∷◌, ◌++◌, length, map, sum, refl, sym, ap, ◌∙◌, arith, IsTrue, Option, Some, None, Result, Ok, Err}
use Rattle.std.proofs.lemmas.Grind.{common_steps}
use Rattle.std.proofs.lemmas.List.Sums.{sum_by-cons}
use Rattle.parfield.specs.Added.{length-added_at, sum-added_at}
use Rattle.parshelf.specs.Shelf.{ShelfState, failure_count}
use Rattle.parshelf.specs.Reads.{ReadsOnly, FaultsIn}
use Rattle.parshelf.specs.declared.shelves.reading.ReadFault.{ReadFault}
use Rattle.parshelf.specs.declared.shelves.reading.ReadFault.TheVariants.{Failed, Ended}
use Rattle.parfind.specs.declared.cursors.cursor.Cursor.{Cursor}
use Rattle.parfind.specs.declared.cursors.sighting.Sighting.{Sighting}
use Rattle.parfind.specs.Order.{is_from}
use Rattle.parfind.proofs.place_laws.CursorOrderLaws.{From-by_test, is_from-true, From-refl, From-trans}
use Rattle.parfind.specs.declared.searches.finder.Step.{Step}
use Rattle.parfind.specs.Sightings.{Scan, sightings_between}
use Rattle.parfind.specs.Points.{SearchPoint}
use Rattle.parfind.specs.Steps.{StepGives}
use Rattle.parfind.proofs.place_laws.SightingLaws.{between_joins}
use Rattle.parfind.proofs.search_laws.StepHandsLaws.{step_hands_out}
use Rattle.parfind.specs.declared.drives.calls.Call.{Call}
use Rattle.parfind.specs.declared.drives.calls.Answer.{Answer}
use Rattle.parfind.specs.Runs.{left_after, CallGives, CallsGive, answer_hit, hits_of, told_failures, CallsHandOut, CallsTellFailures}
use Rattle.parfind.specs.declared.drives.calls.Call.TheVariants as call
use Rattle.parfind.specs.declared.drives.calls.Answer.TheVariants as answer
use Rattle.parfind.proofs.drives.laws.calls_law.Goals as goal

-- after a call, the shelf has the same files, and the number of its failed reads grew by `failed`
pub record Leaves (old new : ShelfState) (failed : ℕ) : Type 0 where
  pub lengths_are : new.lengths ≡ old.lengths
  pub each : length new.failures ≡ length old.failures
  pub told : length old.failures ≡ length old.lengths → failure_count new ≡ failure_count old + failed

leaves_same : (s : ShelfState) → Leaves s s 0
leaves_same s = record { lengths_are = refl; each = refl; told = λ _. omega arith }

leaves_read : (old new : ShelfState) → ReadsOnly old new → Leaves old new 0
leaves_read old new reads =
    let same = reads.counts in record {
      lengths_are = ap (λ (s : ShelfState). s.lengths) same;
      each = ap (λ (s : ShelfState). length s.failures) same;
      told = λ _. omega (arith, ap failure_count same);
    }

leaves_failed : (old new : ShelfState) (file : ℕ) → FaultsIn old new file Failed → Leaves old new 1
leaves_failed old new file fails =
    let same = fails.counts in record {
      lengths_are = ap (λ (s : ShelfState). s.lengths) same;
      each = ap (λ (s : ShelfState). length s.failures) same ∙ length-added_at old.failures file 1;
      told = λ each. ap failure_count same ∙ sum-added_at old.failures file 1 (omega (arith, each, fails.within));
    }

pub step_leaves : (scan : Scan) (budget : Option ℕ) (old new : SearchPoint) (r : Result Step ReadFault)
    → StepGives scan budget old r new → Leaves old.shelf new.shelf (told_failures (answer.Step r))
step_leaves scan budget old new (Ok step) h = leaves_read old.shelf new.shelf h.counts
step_leaves scan budget old new (Err Failed) h = leaves_failed old.shelf new.shelf new.cursor.file h.counts
step_leaves scan budget old new (Err Ended) h = absurd h.counts

-- a call doesn't go back, and passes exactly the sighting of its answer
abbrev HandsOut : Scan → Cursor → Cursor → List Sighting → Type 0
HandsOut scan c d xs = IsTrue (is_from c d) × (sightings_between scan c d ≡ xs)

none_twice : (xs : List Sighting) → xs ++ xs ≡ xs → xs ≡ []
none_twice [] h = refl
none_twice (x ∷ xs) h = absurd (grind (arith, common_steps, ap length h))

hands_none : (scan : Scan) (c : Cursor) → HandsOut scan c c []
hands_none scan c =
    let on = is_from-true c c (From-refl c) in
    (on, none_twice (sightings_between scan c c) (between_joins scan c c c on on))

hands_join : (scan : Scan) (c e d : Cursor) (xs ys : List Sighting) → HandsOut scan c e xs → HandsOut scan e d ys
    → HandsOut scan c d (xs ++ ys)
hands_join scan c e d xs ys first next = (
  is_from-true c d (From-trans c e d (From-by_test c e first.0) (From-by_test e d next.0)),
  sym (between_joins scan c e d first.0 next.0)
      ∙ (ap (λ zs. zs ++ sightings_between scan e d) first.1 ∙ ap (λ zs. xs ++ zs) next.1),
)

call_leaves : (scan : Scan) (old new : SearchPoint) (k : Call) (a : Answer) → CallGives scan old k a new
    → Leaves old.shelf new.shelf (told_failures a)
call_leaves scan old new (call.Step n) (answer.Step r) h = step_leaves scan (Some n) old new r h
call_leaves scan old new (call.Step n) answer.Reopened h = absurd h
call_leaves scan old new (call.Step n) answer.NoMemory h = absurd h
call_leaves scan old new call.Next (answer.Step r) h = step_leaves scan None old new r h
call_leaves scan old new call.Next answer.Reopened h = absurd h
call_leaves scan old new call.Next answer.NoMemory h = absurd h
call_leaves scan old new call.Reopen (answer.Step r) h = absurd h
call_leaves scan old new call.Reopen answer.Reopened h = rw h (leaves_same old.shelf)
call_leaves scan old new call.Reopen answer.NoMemory h = rw h (leaves_same old.shelf)

call_hands : (scan : Scan) (old new : SearchPoint) (k : Call) (a : Answer) → CallGives scan old k a new
    → HandsOut scan old.cursor new.cursor (answer_hit a)
call_hands scan old new (call.Step n) (answer.Step r) h = step_hands_out scan (Some n) old new r h
call_hands scan old new (call.Step n) answer.Reopened h = absurd h
call_hands scan old new (call.Step n) answer.NoMemory h = absurd h
call_hands scan old new call.Next (answer.Step r) h = step_hands_out scan None old new r h
call_hands scan old new call.Next answer.Reopened h = absurd h
call_hands scan old new call.Next answer.NoMemory h = absurd h
call_hands scan old new call.Reopen (answer.Step r) h = absurd h
call_hands scan old new call.Reopen answer.Reopened h = rw h (hands_none scan old.cursor)
call_hands scan old new call.Reopen answer.NoMemory h = rw h (hands_none scan old.cursor)

pub calls_hand_out : CallsHandOut
calls_hand_out scan old new [] [] h = rw h (hands_none scan old.cursor)
calls_hand_out scan old new [] (a ∷ answers) h = absurd h
calls_hand_out scan old new (k ∷ calls) [] h = absurd h
calls_hand_out scan old new (k ∷ calls) (a ∷ answers) h =
    let mid : SearchPoint = h.0 in
    hands_join scan old.cursor mid.cursor new.cursor (answer_hit a) (hits_of answers) (call_hands scan old mid k a h.1.0)
    (calls_hand_out scan mid new (left_after a calls) answers h.1.1)

tells : (scan : Scan) (old new : SearchPoint) (calls : List Call) (answers : List Answer)
    → length old.shelf.failures ≡ length old.shelf.lengths → CallsGive scan old calls answers new
    → failure_count new.shelf ≡ failure_count old.shelf + sum (map told_failures answers)
tells scan old new [] [] each h = omega (arith, ap (λ (p : SearchPoint). failure_count p.shelf) h)
tells scan old new [] (a ∷ answers) each h = absurd h
tells scan old new (k ∷ calls) [] each h = absurd h
tells scan old new (k ∷ calls) (a ∷ answers) each h =
    let mid : SearchPoint = h.0 in
    let leaves = call_leaves scan old mid k a h.1.0 in
    let still : length mid.shelf.failures ≡ length mid.shelf.lengths = rw leaves.lengths_are (leaves.each ∙ each) in
    omega (
      arith,
      leaves.told each,
      tells scan mid new (left_after a calls) answers still h.1.1,
      sum_by-cons (λ (n : ℕ). n) (told_failures a) (map told_failures answers),
    )

pub calls_tell_failures : CallsTellFailures
calls_tell_failures scan old new calls answers is_shelf h = tells scan old new calls answers (is_shelf.failures_each) h

pub returns : goal.returns
returns c = record { hits = calls_hand_out; failures = calls_tell_failures }
