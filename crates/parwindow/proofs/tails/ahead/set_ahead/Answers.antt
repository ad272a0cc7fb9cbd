use Rattle.std.proofs.Common.{◌<◌, length, refl, get_or-set_same, get_or-set_other}
use Rattle.parwindow.proofs.tail_laws.LookAheadLaws.{same_but}
use Rattle.parwindow.proofs.tail_laws.PushTailsLaws.{lengths_more}
use Rattle.parwindow.proofs.tails.ahead.set_ahead.Goals as goal

pub returns-clause-lengths : goal.returns-clause-lengths
returns-clause-lengths c =
    lengths_more c.args.tails.now c.args.k _ c.index-tails-k.result c.requires refl

pub returns-clause-same : goal.returns-clause-same
returns-clause-same c =
    same_but c.args.tails.now c.args.k _ c.index-tails-k.result c.requires
    (record { length = refl; zeros = refl; register = refl })

pub returns-clause-others : goal.returns-clause-others
returns-clause-others c = λ j d ne. rw get_or-set_other refl

pub returns-clause-ahead : goal.returns-clause-ahead
returns-clause-ahead c = λ d. let below : c.args.k < length c.args.tails.now = c.requires in rw get_or-set_same refl
