use Rattle.std.proofs.Common.{◌≡◌, ◌+◌, ◌<◌, ◌||◌, Bool, ℕ, List, cond, subst, arith, length, slice_index, take, ap, ◌∙◌}
use Rattle.std.proofs.lemmas.List.{take_all}
use Rattle.parwindow.specs.Index.{slice_passes}
use Rattle.parwindow.specs.Missing.{found_at}
use Rattle.parwindow.specs.Window.{WindowState}
use Rattle.parfind.specs.Fitting.{is_fitting_of}
use Rattle.parfind.specs.Noting.{FindsMore, TakesDigests}
use Rattle.parfind.specs.Marks.{has_compared_missing}
use Rattle.parfind.specs.Sought.{Sought, compared_lengths}
use Rattle.parfind.proofs.track_laws.TakenDigestLaws.{full_digests}
use Rattle.parfind.proofs.track_laws.EachLengthLaws.{seen_by, seen_by-all, seen_by-more}
use Rattle.parfind.proofs.survey_laws.NotedLaws.{found_on}
use Rattle.parfind.proofs.survey_laws.NoteSeenLaws.{digests_on}
use Rattle.parfind.proofs.surveys.exhausted.Exhausted.note_seen.Goals as goal

pub loop-k-preserved : goal.loop-k-preserved
loop-k-preserved c =
    let held = c.loop-k.invariant in
    let next = c.note_seen_at.ensures in
    let set = c.args.sought.now.set in
    let sought = c.args.sought.now in
    let owns = compared_lengths sought in
    let window = c.args.window.now.content in
    let below : c.loop-k.k < length owns = omega (arith, held.all) in
    record {
      all = held.all;
      full = full_digests sought c.loop-k.window c.note_seen_at.new.window _ next.digests held.full;
      content = ap (λ (w : WindowState). w.content) next.digests ∙ held.content;
      exhausted = next.exhausted;
      found = found_on (seen_by set c.args.sought.now.mode window c.args.left (take c.loop-k.k owns))
          (slice_passes set.slices (is_fitting_of sought window c.args.left (slice_index owns c.loop-k.k)))
          (seen_by set c.args.sought.now.mode window c.args.left (take (c.loop-k.k + 1) owns)) c.args.found.now c.loop-k.found c.note_seen_at.new.found
          (seen_by-more set c.args.sought.now.mode window c.args.left c.loop-k.k below) held.found (rw held.content at next.found);
      digests = digests_on set c.args.sought.now.mode window c.args.left c.loop-k.k below c.args.found.now c.loop-k.found held.found
          c.args.window.now c.loop-k.window c.note_seen_at.new.window held.digests
          (subst (λ (bytes : List ℕ). TakesDigests (cond (has_compared_missing sought c.loop-k.found bytes c.args.left (slice_index owns c.loop-k.k)) 1 0) c.loop-k.window c.note_seen_at.new.window)
          held.content next.digests);
    }

pub returns-clause-found : goal.returns-clause-found
returns-clause-found c =
    let held = c.loop-k.invariant in
    let set = c.args.sought.now.set in
    let owns = compared_lengths c.args.sought.now in
    let window = c.args.window.now.content in
    let good = rw (ap (λ (s : Sought). s.set) c.sought.view_is) at c.size-size.ensures.set in
    let all : take c.loop-k.k owns ≡ owns = take_all c.loop-k.k owns (omega (arith, held.all)) in
    let marks : FindsMore (seen_by set c.args.sought.now.mode window c.args.left owns) c.args.found.now c.loop-k.found = rw all at held.found in
    λ n. marks n ∙ ap (λ (b : Bool). found_at c.args.found.now n || b)
    (seen_by-all set c.args.sought.now.mode window c.args.left (c.requires.full.full ∙ c.requires.full.made.sized) good n)
