use Rattle.parwindow.proofs.index.Index.low_set.Goals as goal

pub returns : goal.returns
returns c = λ register small has.
    rw (c.of_length.ensures c.of_length.result.now)
    (c.self.invariant.has_lows c.args.own register c.of_length.result.now
    (rw (← c.self.view_is) at c.requires) small (rw (← c.self.view_is) at has))
