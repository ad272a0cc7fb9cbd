-- A script of calls, one answer after another.
use Rattle.std.proofs.Common.{◌≡◌, ℕ, ◌+◌, List, [], ◌∷◌, ◌++◌, map, sum, refl, ap, ◌∙◌, arith, Result, Ok, Err, ◌<◌, ◌≤◌, length, drop, get_or, sym, subst, append_assoc, append-nil, add-one, IsTrue, Option, Some, None}
use Rattle.std.proofs.lemmas.List.Sums.{sum_by-cons}
use Rattle.parfield.specs.Added.{sum-added_at}
use Rattle.parshelf.specs.Shelf.{ShelfState, IsShelf, failure_count, early_end_count, ReadsAs}
use Rattle.parshelf.specs.Reads.{ReadsFile}
use Rattle.parshelf.specs.declared.shelves.reading.ReadFault.{ReadFault}
use Rattle.parshelf.specs.declared.shelves.reading.ReadFault.TheVariants.{Failed, Ended}
use Rattle.parfind.specs.declared.searches.finder.Step.{Step}
use Rattle.parfind.specs.declared.drives.calls.Answer.{Answer}
use Rattle.parshelf.proofs.ShelfLaws.{Older-refl, Older-trans}
use Rattle.parfind.proofs.track_laws.LaterShelfLaws.{Later, later_same, later_only, later_fault, later_read}
use Rattle.parfind.specs.Runs.{told_failures, left_after, CallGives, CallsGive, MayAnswer, AnswersEach}
use Rattle.parfind.specs.AnswersToldOf.{told_early_ends, TellsOf}
use Rattle.std.specs.List.{Contains}
use Rattle.std.proofs.Math.Seq.{drop-cons}
use Rattle.std.proofs.lemmas.Grind.{common_steps}
use Rattle.parfind.specs.Sought.{Sought}
use Rattle.parfind.specs.declared.cursors.cursor.Cursor.{Cursor}
use Rattle.parfind.specs.Order.{is_from}
use Rattle.parfind.proofs.place_laws.CursorOrderLaws.{From-by_test, is_from-true, From-trans}
use Rattle.parfind.specs.Finders.{FinderState, search_of}
use Rattle.parfind.specs.OnePass.{CallReads, CallsRead, HandsWithin}
use Rattle.parfind.specs.Places.{place_at}
use Rattle.parfind.specs.Points.{SearchPoint, SearchState, search_at}
use Rattle.parfind.specs.Sightings.{Scan}
use Rattle.parfind.specs.Steps.{StepGives, scan_of}
use Rattle.parfind.proofs.search_laws.StepMovesLaws.{moves_onward}
use Rattle.parfind.proofs.search_laws.TryPlaceLaws.{StepMade}
use Rattle.parfind.proofs.search_laws.ReachLaws.{reach_adds_up}
use Rattle.parfind.specs.declared.drives.calls.Call.{Call}
use Rattle.parfind.specs.declared.drives.calls.Answer.TheVariants as answer
use Rattle.parfind.specs.declared.drives.calls.Call.TheVariants as call

sum_after : (f : Answer → ℕ) (xs : List Answer) (a : Answer) → sum (map f (xs ++ a ∷ [])) ≡ sum (map f xs) + f a
sum_after f [] a = omega (arith, sum_by-cons (λ (n : ℕ). n) (f a) [])
sum_after f (x ∷ xs) a = omega (
  arith,
  sum_after f xs a,
  sum_by-cons (λ (n : ℕ). n) (f x) (map f (xs ++ a ∷ [])),
  sum_by-cons (λ (n : ℕ). n) (f x) (map f xs),
)

pub tells_none : (s : ShelfState) → TellsOf s s []
tells_none s = record { paths_are = refl; lengths_are = refl; fixed_is = refl; failed = omega arith; ended = omega arith; older = Older-refl s }

tells_more : (old s t : ShelfState) (xs : List Answer) (a : Answer) → TellsOf old s xs → Later s t → failure_count t ≡ failure_count s + told_failures a
    → early_end_count t ≡ early_end_count s + told_early_ends a → TellsOf old t (xs ++ a ∷ [])
tells_more old s t xs a so_far later failed ended = record {
  paths_are = later.paths ∙ so_far.paths_are;
  lengths_are = later.lengths ∙ so_far.lengths_are;
  fixed_is = later.fixed ∙ so_far.fixed_is;
  failed = omega (arith, so_far.failed, failed, sum_after told_failures xs a);
  ended = omega (arith, so_far.ended, ended, sum_after told_early_ends xs a);
  older = Older-trans old s t so_far.older later.older;
}

-- an answer that reports no failed read and no early end leaves the counts as they were
pub tells_same : (old s : ShelfState) (xs : List Answer) (a : Answer) → TellsOf old s xs → told_failures a ≡ 0
    → told_early_ends a ≡ 0 → TellsOf old s (xs ++ a ∷ [])
tells_same old s xs a so_far failed ended =
    tells_more old s s xs a so_far (later_same s) (omega (arith, failed)) (omega (arith, ended))

pub tells_step : (old s t : ShelfState) (xs : List Answer) (r : Result Step ReadFault) (file : ℕ) → IsShelf s → TellsOf old s xs
    → ReadsFile file s t r → TellsOf old t (xs ++ answer.Step r ∷ [])
tells_step old s t xs (Ok step) file shelf so_far reads =
    let same = reads.counts in
    tells_more old s t xs (answer.Step (Ok step)) so_far (later_only s t reads) (omega (arith, ap failure_count same))
    (omega (arith, ap early_end_count same))
tells_step old s t xs (Err Failed) file shelf so_far faults =
    let same = faults.counts in
    let more = sum-added_at s.failures file 1 (omega (arith, shelf.failures_each, faults.within)) in
    tells_more old s t xs (answer.Step (Err Failed)) so_far (later_fault s t file Failed faults)
    (omega (arith, ap failure_count same, more)) (omega (arith, ap early_end_count same))
tells_step old s t xs (Err Ended) file shelf so_far faults =
    let same = faults.counts in
    let more = sum-added_at s.early_ends file 1 (omega (arith, shelf.early_ends_each, faults.within)) in
    tells_more old s t xs (answer.Step (Err Ended)) so_far (later_fault s t file Ended faults)
    (omega (arith, ap failure_count same)) (omega (arith, ap early_end_count same, more))

-- whatever the later calls give, all calls give it after these answers
abbrev pub GivesBefore : Scan → SearchPoint → List Call → SearchPoint → List Call → List Answer → Type 0
GivesBefore scan old calls now later answers =
    (tail : List Answer) (new : SearchPoint) → CallsGive scan now later tail new → CallsGive scan old calls (answers ++ tail) new

abbrev pub EachBefore : List Call → List Call → List Answer → Type 0
EachBefore calls later answers =
    (tail : List Answer) → AnswersEach later tail → AnswersEach calls (answers ++ tail)

joined : (xs ys tail : List Answer) (a : Answer) → ys ≡ xs ++ a ∷ [] → xs ++ a ∷ tail ≡ ys ++ tail
joined xs ys tail a items = sym (ap (λ (zs : List Answer). zs ++ tail) items ∙ append_assoc xs (a ∷ []) tail)

gives_more : (scan : Scan) (old now next : SearchPoint) (calls later : List Call) (k : Call) (a : Answer) (xs ys : List Answer)
    → GivesBefore scan old calls now (k ∷ later) xs → CallGives scan now k a next → ys ≡ xs ++ a ∷ []
    → GivesBefore scan old calls next (left_after a later) ys
gives_more scan old now next calls later k a xs ys before one items tail new h =
    subst (λ (zs : List Answer). CallsGive scan old calls zs new) (joined xs ys tail a items)
    (before (a ∷ tail) new (next, (one, h)))

each_more : (calls later : List Call) (k : Call) (a : Answer) (xs ys : List Answer) → EachBefore calls (k ∷ later) xs → MayAnswer k a
    → ys ≡ xs ++ a ∷ [] → EachBefore calls (left_after a later) ys
each_more calls later k a xs ys before one items tail h =
    subst (AnswersEach calls) (joined xs ys tail a items) (before (a ∷ tail) (one, h))

reads_more : (size : ℕ) (old mid next : SearchState) (states : List SearchState) → CallsRead size old states mid
    → CallReads size mid next → CallsRead size old (states ++ next ∷ []) next
reads_more size old mid next [] same one = (subst (λ (s : SearchState). CallReads size s next) same one, refl)
reads_more size old mid next (s ∷ others) calls one = (calls.0, reads_more size s mid next others calls.1 one)

-- the state of a search that was just opened at a cursor
abbrev pub opened_at : ShelfState → Cursor → SearchState
opened_at shelf c = record { shelf = shelf; fetched = place_at c; cursor = c }

-- the same finder was open all along, and reads no more than it may
pub record KeptSoFar (size : ℕ) (old now : ShelfState) (start : Cursor) (finder : FinderState) : Type 0 where
  pub states : List SearchState
  pub read : CallsRead size (opened_at old start) states (search_of now finder)
  pub opening : finder.opening ≡ start

-- the answers so far, and the state of the search after them: true each time before a call is made
pub record DriveSoFar
    (sought : Sought) (old now : ShelfState) (start : Cursor) (finder : FinderState) (calls later : List Call) (answers : List Answer)
    : Type 0 where
  pub told : TellsOf old now answers
  pub gives : (files : List (List ℕ)) → ReadsAs now files
      → GivesBefore (scan_of sought files) (search_at old start) calls (search_at now finder.cursor) later answers
  pub each : EachBefore calls later answers
  pub onward : IsTrue (is_from start finder.cursor)
  pub mode_is : finder.mode ≡ sought.mode
  pub kept : ¬ Contains calls call.Reopen → KeptSoFar sought.set.slice_size old now start finder

-- a call is a step with this budget, or without one
pub record Asks (k : Call) (budget : Option ℕ) : Type 0 where
  pub gives : (scan : Scan) (old new : SearchPoint) (r : Result Step ReadFault) → StepGives scan budget old r new
      → CallGives scan old k (answer.Step r) new
  pub answers : (r : Result Step ReadFault) → MayAnswer k (answer.Step r)

pub asks_step : (n : ℕ) → Asks (call.Step n) (Some n)
asks_step n = record { gives = λ scan old new r h. h; answers = λ r. tt }

pub asks_next : Asks call.Next None
asks_next = record { gives = λ scan old new r h. h; answers = λ r. tt }

pub drive_steps : (sought : Sought) (old s t : ShelfState) (start : Cursor) (before after : FinderState) (calls later : List Call)
    (k : Call) (budget : Option ℕ) (r : Result Step ReadFault) (xs ys : List Answer) → Asks k budget → IsShelf s
    → DriveSoFar sought old s start before calls (k ∷ later) xs → StepMade sought budget s t before after r
    → CallReads sought.set.slice_size (search_of s before) (search_of t after)
    → ys ≡ xs ++ answer.Step r ∷ [] → DriveSoFar sought old t start after calls later ys
drive_steps sought old s t start before after calls later k budget r xs ys asks shelf so_far made reads items = record {
  told = rw items (tells_step old s t xs r after.cursor.file shelf so_far.told made.along.shelf);
  gives = λ files reads_as.
      let scan : Scan = scan_of sought files in
      let later_shelf = later_read s t after.cursor.file r made.along.shelf in
      gives_more scan (search_at old start) (search_at s before.cursor) (search_at t after.cursor) calls later k (answer.Step r) xs ys
      (so_far.gives files (later_shelf.older files reads_as))
      (asks.gives scan (search_at s before.cursor) (search_at t after.cursor) r (made.answer files reads_as)) items;
  each = each_more calls later k (answer.Step r) xs ys so_far.each (asks.answers r) items;
  onward =
      let on = moves_onward s.lengths budget before.cursor after.cursor r made.moves in
      is_from-true start after.cursor
      (From-trans start before.cursor after.cursor (From-by_test start before.cursor so_far.onward) on);
  mode_is = made.along.mode_is ∙ so_far.mode_is;
  kept = λ none.
      let kept = so_far.kept none in record {
        states = kept.states ++ search_of t after ∷ [];
        read = reads_more sought.set.slice_size (opened_at old start) (search_of s before) (search_of t after) kept.states kept.read reads;
        opening = made.along.opening_is ∙ kept.opening;
      };
}

-- if another finder was opened at the cursor, the invariant still holds
pub drive_reopens : (sought : Sought) (old s : ShelfState) (start : Cursor) (before after : FinderState) (calls later : List Call)
    (xs ys : List Answer) → Contains calls call.Reopen
    → DriveSoFar sought old s start before calls (call.Reopen ∷ later) xs → after.cursor ≡ before.cursor → after.mode ≡ sought.mode
    → ys ≡ xs ++ answer.Reopened ∷ [] → DriveSoFar sought old s start after calls later ys
drive_reopens sought old s start before after calls later xs ys there so_far cursor mode items = record {
  told = rw items (tells_same old s xs answer.Reopened so_far.told refl refl);
  gives = λ files reads_as.
      gives_more (scan_of sought files) (search_at old start) (search_at s before.cursor) (search_at s after.cursor) calls later call.Reopen
      answer.Reopened xs ys (so_far.gives files reads_as) (ap (search_at s) cursor) items;
  each = each_more calls later call.Reopen answer.Reopened xs ys so_far.each tt items;
  onward = rw cursor so_far.onward;
  mode_is = mode;
  kept = λ none. absurd (none there);
}

-- if memory for another finder was refused, the invariant holds with no later calls
pub drive_stops : (sought : Sought) (old s : ShelfState) (start : Cursor) (before : FinderState) (calls later : List Call)
    (xs ys : List Answer) → Contains calls call.Reopen
    → DriveSoFar sought old s start before calls (call.Reopen ∷ later) xs
    → ys ≡ xs ++ answer.NoMemory ∷ [] → DriveSoFar sought old s start before calls [] ys
drive_stops sought old s start before calls later xs ys there so_far items = record {
  told = rw items (tells_same old s xs answer.NoMemory so_far.told refl refl);
  gives = λ files reads_as.
      gives_more (scan_of sought files) (search_at old start) (search_at s before.cursor) (search_at s before.cursor) calls later call.Reopen
      answer.NoMemory xs ys (so_far.gives files reads_as) refl items;
  each = each_more calls later call.Reopen answer.NoMemory xs ys so_far.each tt items;
  onward = so_far.onward;
  mode_is = so_far.mode_is;
  kept = λ none. absurd (none there);
}

-- the clauses of `drive`, if it returns answers
pub record DriveGave
    (sought : Sought) (old new : ShelfState) (start d : Cursor) (calls : List Call) (answers : List Answer) : Type 0 where
  pub answer : (files : List (List ℕ)) → ReadsAs new files
      → CallsGive (scan_of sought files) (search_at old start) calls answers (search_at new d)
  pub each : AnswersEach calls answers
  pub onward : IsTrue (is_from start d)
  pub told : TellsOf old new answers
  pub reads : ¬ Contains calls call.Reopen → HandsWithin sought.set.slice_size (search_at old start) (search_at new d)

pub drive_ends : (sought : Sought) (old new : ShelfState) (start d : Cursor) (finder : FinderState) (calls : List Call) (answers : List Answer)
    → DriveSoFar sought old new start finder calls [] answers → d ≡ finder.cursor → DriveGave sought old new start d calls answers
drive_ends sought old new start d finder calls answers so_far cursor = rw cursor (record {
  answer = λ files reads_as.
      subst (λ (zs : List Answer). CallsGive (scan_of sought files) (search_at old start) calls zs (search_at new finder.cursor))
      (append-nil answers) (so_far.gives files reads_as [] (search_at new finder.cursor) refl);
  each = subst (AnswersEach calls) (append-nil answers) (so_far.each [] tt);
  onward = so_far.onward;
  told = so_far.told;
  reads = λ none.
      let kept = so_far.kept none in
      reach_adds_up sought.set.slice_size (opened_at old start) (search_of new finder) kept.states refl kept.read;
})

-- the calls from index i on are the call there and those after it
pub next_call : (calls : List Call) (i : ℕ) (k z : Call) → i < length calls → get_or calls i z ≡ k → drop i calls ≡ k ∷ drop (i + 1) calls
next_call calls i k z h e = rw add-one (drop-cons calls i z h) ∙ ap (λ (x : Call). x ∷ drop (i + 1) calls) e

pub drop_all : (calls : List Call) (i : ℕ) → length calls ≤ i → drop i calls ≡ []
drop_all calls i h = grind (arith, common_steps)
