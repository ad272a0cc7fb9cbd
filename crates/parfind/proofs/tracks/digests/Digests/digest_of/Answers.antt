use Rattle.std.proofs.Common.{◌<◌, arith, length, sym}
use Rattle.parfind.proofs.track_laws.TakenDigestLaws.{looks_more}
use Rattle.parfind.proofs.tracks.digests.Digests.digest_of.Goals as goal

pub returns-clause-stays : goal.returns-clause-stays
returns-clause-stays c =
    let kept = c.args.self.now.kept.items in
    let below : c.args.k < length kept = omega (arith, c.requires.there, c.requires.keeps.room) in
    looks_more c.args.window.now c.digest_at-digest.new.window kept c.args.k c.digest_at-digest.result below
    (sym (rw c.in_default.is at c.index.ensures)) c.digest_at-digest.ensures.counted
