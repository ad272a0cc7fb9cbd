use Rattle.std.proofs.Common.{length, slice_index, sym, ◌∙◌}
use Rattle.parwindow.specs.Crc32.{crc_of}
use Rattle.parwindow.specs.Index.{sums_of}
use Rattle.parwindow.specs.Window.{zero_filled}
use Rattle.parfind.specs.Sought.{compared_lengths}
use Rattle.parfind.proofs.track_laws.ComparedLaws.{compared_some, compared_known}
use Rattle.parfind.proofs.tracks.digests.Digests.first_seen_at.Goals as goal

pub returns-then-not-has_fitting_crc-clause-first : goal.returns-then-not-has_fitting_crc-clause-first
returns-then-not-has_fitting_crc-clause-first c = λ k from fits.
    let sought = c.args.sought.now in
    let own = slice_index (compared_lengths sought) c.args.k in
    let window = c.args.window.now.content in
    let some = compared_some sought own c.args.left (sums_of (zero_filled (length window) own window)) k fits in
    let known = rw c.crc_at-crc.ensures at c.has_fitting_crc.ensures in
    let both = sym some ∙ sym known ∙ c.if-not-has_fitting_crc.true in
    cc

pub digest_of-digest-requires-clause-marked : goal.digest_of-digest-requires-clause-marked
digest_of-digest-requires-clause-marked c =
    let sought = c.args.sought.now in
    let own = slice_index (compared_lengths sought) c.args.k in
    let window = c.args.window.now.content in
    let known = rw c.crc_at-crc.ensures at c.has_fitting_crc.ensures in
    compared_known sought own (crc_of (zero_filled (length window) own window)) c.args.left (sym known ∙ c.if-not-has_fitting_crc.false)
