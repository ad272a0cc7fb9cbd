use Rattle.parwindow.proofs.slice_laws.KnownSumsLaws.{found_within}
use Rattle.parwindow.proofs.index.Index.next_match.Goals as goal

pub returns-clause-found : goal.returns-clause-found
returns-clause-found c = rw (← c.self.view_is) (c.next_match.ensures c.self.inside.slices
    c.self.invariant.indexes)

pub returns-clause-there : goal.returns-clause-there
returns-clause-there c =
    rw (← c.self.view_is)
    (found_within _ c.self.inside.slices c.args.from c.next_match.result
    (c.next_match.ensures c.self.inside.slices c.self.invariant.indexes))
