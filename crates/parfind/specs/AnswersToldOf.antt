-- The counts of a shelf after a script of calls, compared with the answers, whatever bytes were
-- read.
use Rattle.std.specs.Prelude.{◌≡◌, ℕ, ◌+◌, List, Ok, Err, map, sum}
use Rattle.parshelf.specs.Shelf.{ShelfState, Older, failure_count, early_end_count}
use Rattle.parshelf.specs.declared.shelves.reading.ReadFault.TheVariants.{Failed, Ended}
use Rattle.parfind.specs.declared.drives.calls.Answer.{Answer}
use Rattle.parfind.specs.declared.drives.calls.Answer.TheVariants as answer
use Rattle.parfind.specs.Runs.{told_failures}

-- how many unexpected ends of files an answer reports: reads that returned no byte before the
-- file's length
abbrev pub told_early_ends : Answer → ℕ
told_early_ends (answer.Step (Ok step)) = 0
told_early_ends (answer.Step (Err Failed)) = 0
told_early_ends (answer.Step (Err Ended)) = 1
told_early_ends answer.Reopened = 0
told_early_ends answer.NoMemory = 0

-- a shelf changed only in its reads and its counts: the answers report each read that failed, and
-- each that returned no byte before a file's length
pub record TellsOf (old new : ShelfState) (answers : List Answer) : Type 0 where
  pub paths_are : new.paths ≡ old.paths
  pub lengths_are : new.lengths ≡ old.lengths
  pub fixed_is : new.fixed ≡ old.fixed
  pub failed : failure_count new ≡ failure_count old + sum (map told_failures answers)
  pub ended : early_end_count new ≡ early_end_count old + sum (map told_early_ends answers)
  pub older : Older old new
