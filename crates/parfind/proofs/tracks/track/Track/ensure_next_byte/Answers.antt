use Rattle.std.proofs.Common.{arith}
use Rattle.std.proofs.lemmas.Grind.{common_steps}
use Rattle.parfind.proofs.track_laws.LaterShelfLaws.{later_read}
use Rattle.parfind.proofs.track_laws.RefillLaws.{tied_refilled}
use Rattle.parfind.proofs.tracks.track.Track.ensure_next_byte.Goals as goal

pub returns-then-at-length-clause-tied : goal.returns-then-at-length-clause-tied
returns-then-at-length-clause-tied g c = grind (arith, common_steps)

pub returns-then-at-length-clause-same : goal.returns-then-at-length-clause-same
returns-then-at-length-clause-same g c = grind (arith, common_steps)

pub returns-then-at-length-clause-next : goal.returns-then-at-length-clause-next
returns-then-at-length-clause-next g c = grind (arith, common_steps)

pub returns-then-at-length-clause-reads : goal.returns-then-at-length-clause-reads
returns-then-at-length-clause-reads g c = grind (arith, common_steps)

pub returns-then-at-length-clause-shelf : goal.returns-then-at-length-clause-shelf
returns-then-at-length-clause-shelf g c = grind (arith, common_steps)

pub returns-clause-same : goal.returns-clause-same
returns-clause-same g c = grind (arith, common_steps)

pub returns-clause-reads : goal.returns-clause-reads
returns-clause-reads g c = grind (arith, common_steps)

pub returns-clause-shelf : goal.returns-clause-shelf
returns-clause-shelf g c = grind (arith, common_steps)

pub returns-clause-tied : goal.returns-clause-tied
returns-clause-tied g c =
    let s = g.H.Shelf.state c.args.shelf.now in
    let t = g.H.Shelf.state c.refill.new.shelf in
    let r = c.refill.ensures in
    tied_refilled s t c.args.window.now c.args.self.now c.refill.new.self c.requires.tied r.on
    (later_read s t c.args.self.now.file c.refill.result r.shelf)
    (omega (arith, c.if-at-length.false, c.len.ensures.len, c.length.ensures.value)) (omega (arith, c.if-at-self.false, c.len.ensures.len)) r.bytes
