use Rattle.parshelf.specs.Memory.{shelf_state_of}
use Rattle.parfind.specs.Finders.{BelongsTo}
use Rattle.search_tests.proofs.tests.searches.searching.steps_give.Given as goal

abbrev pub invariant-loop-step : goal.invariant-loop-step
invariant-loop-step g l = BelongsTo l.finder l.index (shelf_state_of l.shelf)
