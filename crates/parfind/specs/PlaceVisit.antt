-- A try of the next place, seen as a step with a budget: a finder makes its steps of such tries.
use Rattle.std.specs.Prelude.{ℕ, Result, Ok, Err}
use Rattle.parshelf.specs.declared.shelves.reading.ReadFault.{ReadFault}
use Rattle.parfind.specs.declared.searches.finder.Step.{Step}
use Rattle.parfind.specs.declared.searches.finder.Step.TheVariants as step
use Rattle.parfind.specs.declared.searches.finder.Visit.{Visit}
use Rattle.parfind.specs.declared.searches.finder.Visit.TheVariants as visit

-- the step that a try is: if it only passes places, that step has spent its budget
abbrev pub step_of : Visit → Step
step_of (visit.Hit x) = step.Hit x
step_of (visit.Passed n) = step.Spent
step_of visit.End = step.Done

-- the result of that step; an error is the same
abbrev pub step_answer : Result Visit ReadFault → Result Step ReadFault
step_answer (Ok tried) = Ok (step_of tried)
step_answer (Err fault) = Err fault

-- the budget of that step: the number of places that were passed, and else 1
abbrev pub count_of : Result Visit ReadFault → ℕ
count_of (Ok (visit.Hit x)) = 1
count_of (Ok (visit.Passed n)) = n
count_of (Ok visit.End) = 1
count_of (Err fault) = 1
