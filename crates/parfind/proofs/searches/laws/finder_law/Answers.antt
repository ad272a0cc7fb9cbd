use Rattle.parfind.proofs.search_laws.BelongsLaws.{belongs_later}
use Rattle.parfind.proofs.searches.laws.finder_law.Goals as goal

pub returns : goal.returns
returns c = belongs_later
