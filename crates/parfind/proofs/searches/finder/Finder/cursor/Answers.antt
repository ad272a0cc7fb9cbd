use Rattle.std.proofs.Common.{ap}
use Rattle.parfind.specs.Finders.{FinderState}
use Rattle.parfind.proofs.searches.finder.Finder.cursor.Goals as goal

pub returns : goal.returns
returns c = ap (λ (f : FinderState). f.cursor) c.self.view_is
