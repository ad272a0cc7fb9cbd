-- A script of calls of a search, and the answers of the calls.
use Rattle.std.specs.Prelude.{◌≡◌, ℕ, ◌+◌, ◌<◌, List, [], ◌∷◌, Some, None, Ok, Err, IsTrue, map, sum}
use Rattle.std.specs.List.{flat_map}
use Rattle.parshelf.specs.Shelf.{IsShelf, failure_count}
use Rattle.parshelf.specs.declared.shelves.reading.ReadFault.TheVariants.{Failed, Ended}
use Rattle.parfind.specs.declared.cursors.sighting.Sighting.{Sighting}
use Rattle.parfind.specs.Order.{is_from}
use Rattle.parfind.specs.Points.{SearchPoint}
use Rattle.parfind.specs.Sightings.{Scan, sightings_between}
use Rattle.parfind.specs.Steps.{StepGives, hit_of}
use Rattle.parfind.specs.declared.drives.calls.Call.{Call}
use Rattle.parfind.specs.declared.drives.calls.Call.TheVariants as call
use Rattle.parfind.specs.declared.drives.calls.Answer.{Answer}
use Rattle.parfind.specs.declared.drives.calls.Answer.TheVariants as answer

-- if a call has a budget, it is above 0
abbrev pub HasBudget : Call → Type 0
HasBudget (call.Step n) = 0 < n
HasBudget call.Next = Unit {0}
HasBudget call.Reopen = Unit {0}

-- the calls that are still made after an answer: none after a reopening for which memory was
-- refused
abbrev pub left_after : Answer → List Call → List Call
left_after (answer.Step r) calls = calls
left_after answer.Reopened calls = calls
left_after answer.NoMemory calls = []

-- a call of a search in these files and its answer; `old` and `new` are the shelf and the cursor
-- before and after it. A reopening changes neither
abbrev pub CallGives : Scan → SearchPoint → Call → Answer → SearchPoint → Type 0
CallGives scan old (call.Step n) (answer.Step r) new = StepGives scan (Some n) old r new
CallGives scan old call.Next (answer.Step r) new = StepGives scan None old r new
CallGives scan old call.Reopen answer.Reopened new = new ≡ old
CallGives scan old call.Reopen answer.NoMemory new = new ≡ old
CallGives scan old _ _ new = ⊥

-- these calls have these answers, all in the same files: each call begins with the shelf and the
-- cursor after the call before it. Both lists end together, or at a reopening for which memory was
-- refused
abbrev pub CallsGive : Scan → SearchPoint → List Call → List Answer → SearchPoint → Type 0
CallsGive scan old [] [] new = new ≡ old
CallsGive scan old (call ∷ calls) (a ∷ answers) new =
    (mid : SearchPoint)
    × (CallGives scan old call a mid × CallsGive scan mid (left_after a calls) answers new)
CallsGive scan old _ _ new = ⊥

-- whether a call may have this answer
abbrev pub MayAnswer : Call → Answer → Type 0
MayAnswer (call.Step n) (answer.Step r) = Unit {0}
MayAnswer call.Next (answer.Step r) = Unit {0}
MayAnswer call.Reopen answer.Reopened = Unit {0}
MayAnswer call.Reopen answer.NoMemory = Unit {0}
MayAnswer _ _ = ⊥

-- there is one answer to each call, in order; the calls after a reopening that was refused have
-- none
abbrev pub AnswersEach : List Call → List Answer → Type 0
AnswersEach [] [] = Unit {0}
AnswersEach (call ∷ calls) (a ∷ answers) =
    MayAnswer call a × AnswersEach (left_after a calls) answers
AnswersEach _ _ = ⊥

-- the sighting of an answer, if it has one
abbrev pub answer_hit : Answer → List Sighting
answer_hit (answer.Step r) = hit_of r
answer_hit answer.Reopened = []
answer_hit answer.NoMemory = []

-- the sightings of answers, in order
abbrev pub hits_of : List Answer → List Sighting
hits_of answers = flat_map answer_hit answers

-- how many failed reads an answer reports
abbrev pub told_failures : Answer → ℕ
told_failures (answer.Step (Ok step)) = 0
told_failures (answer.Step (Err Failed)) = 1
told_failures (answer.Step (Err Ended)) = 0
told_failures answer.Reopened = 0
told_failures answer.NoMemory = 0

-- a script of calls doesn't go back, and returns exactly the sightings that it passes
abbrev pub CallsHandOut : Type 0
CallsHandOut =
    (scan : Scan) (old new : SearchPoint) (calls : List Call) (answers : List Answer)
    → CallsGive scan old calls answers new → IsTrue (is_from old.cursor new.cursor)
    × (sightings_between scan old.cursor new.cursor ≡ hits_of answers)

-- during a script of calls, the number of reads that failed is the one that its answers report
abbrev pub CallsTellFailures : Type 0
CallsTellFailures =
    (scan : Scan) (old new : SearchPoint) (calls : List Call) (answers : List Answer)
    → IsShelf old.shelf → CallsGive scan old calls answers new
    → failure_count new.shelf ≡ failure_count old.shelf + sum (map told_failures answers)
