use Rattle.std.proofs.Common.{◌≡◌, ◌<◌, arith, false, length, rules, slice_index, sym, ◌∙◌}
use Rattle.parwindow.specs.Crc32.{crc_of}
use Rattle.parwindow.specs.Index.{slice_passes, sums_of}
use Rattle.parwindow.specs.Missing.{has_fit_crc_of, has_unfound}
use Rattle.parwindow.specs.Window.{zero_filled}
use Rattle.parfind.specs.Fitting.{is_fitting_match, is_fitting_of}
use Rattle.parfind.specs.Sought.{is_compared, compared_lengths}
use Rattle.parfind.proofs.track_laws.EachLengthLaws.{few_compared}
use Rattle.parfind.proofs.survey_laws.ExhaustedLaws.{exhausted_more, exhausted_set}
use Rattle.parfind.proofs.track_laws.ComparedLaws.{compared_fits}
use Rattle.parfind.proofs.survey_laws.NotedLaws.{fits_found}
use Rattle.parfind.proofs.surveys.exhausted.Exhausted.note_seen_at.Goals as goal

pub returns-then-eq-clause-found : goal.returns-then-eq-clause-found
returns-then-eq-clause-found c =
    let set = c.args.sought.now.set in
    let sought = c.args.sought.now in
    let window = c.args.window.now.content in
    let own = slice_index (compared_lengths sought) c.args.k in
    let sums = sums_of (zero_filled (length window) own window) in
    let known : has_unfound set.slices c.args.found.now (is_compared sought own (has_fit_crc_of (crc_of (zero_filled (length window) own window)) c.args.left)) ≡ false = search rules in
    fits_found set c.args.found.now (is_fitting_of sought window c.args.left own) (is_compared sought own (has_fit_crc_of sums.1 c.args.left))
    (compared_fits sought own c.args.left sums) known

pub bounds-self-k-else-is_missing_at : goal.bounds-self-k-else-is_missing_at
bounds-self-k-else-is_missing_at c =
    omega (arith, c.requires.there, few_compared c.args.sought.now c.requires.full.made.few)

pub offset_bounds-self-k-else-is_missing_at : goal.offset_bounds-self-k-else-is_missing_at
offset_bounds-self-k-else-is_missing_at c =
    let below : c.args.k < 257 =
    omega (arith, c.requires.there, few_compared c.args.sought.now c.requires.full.made.few) in
    omega arith

pub returns-then-is_missing_at-clause-exhausted : goal.returns-then-is_missing_at-clause-exhausted
returns-then-is_missing_at-clause-exhausted c =
    let sought = c.args.sought.now in
    rw c.note_matches.ensures.crcs (exhausted_more sought c.args.left c.args.self.now.crcs c.args.found.now c.note_matches.new.found
    (slice_passes c.args.sought.now.set.slices (is_compared sought (slice_index (compared_lengths sought) c.args.k)
    (is_fitting_match (c.digest_at-digest.result, c.crc_at-crc.result) c.args.left))) c.note_matches.ensures.found c.requires.exhausted)

pub returns-else-is_missing_at-clause-exhausted : goal.returns-else-is_missing_at-clause-exhausted
returns-else-is_missing_at-clause-exhausted c =
    let sought = c.args.sought.now in
    exhausted_set sought c.args.left c.args.self.now.crcs c.args.found.now c.args.k c.crc_at-crc.result
    (omega (arith, c.requires.there, few_compared sought c.requires.full.made.few))
    (sym c.is_missing_at.ensures ∙ c.if-is_missing_at.false) c.requires.exhausted

pub returns-else-is_missing_at-clause-found : goal.returns-else-is_missing_at-clause-found
returns-else-is_missing_at-clause-found c =
    let set = c.args.sought.now.set in
    let sought = c.args.sought.now in
    let window = c.args.window.now.content in
    let own = slice_index (compared_lengths sought) c.args.k in
    let sums = sums_of (zero_filled (length window) own window) in
    let none = sym c.is_missing_at.ensures ∙ c.if-is_missing_at.false in
    fits_found set c.args.found.now (is_fitting_of sought window c.args.left own) (is_compared sought own (has_fit_crc_of sums.1 c.args.left))
    (compared_fits sought own c.args.left sums) (rw c.crc_at-crc.ensures at none)
