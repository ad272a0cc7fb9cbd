use Rattle.parwindow.specs.Index.{slice_set_of}
use Rattle.parwindow.proofs.slice_laws.TailLengthsLaws.{tails_fit}
use Rattle.parwindow.proofs.index.Index.tail_lengths.Goals as goal

pub returns-clause-tails : goal.returns-clause-tails
returns-clause-tails c =
    let i = c.self.inside in
    rw (← c.self.view_is, c.as_slice.ensures, c.self.invariant.tails)
    (tails_fit (slice_set_of i.size i.slices))
