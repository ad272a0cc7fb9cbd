use Rattle.std.proofs.Common.{◌≡◌, arith, ap, ◌∙◌, length, take}
use Rattle.std.proofs.lemmas.List.{take_all}
use Rattle.parwindow.specs.Index.{slice_passes}
use Rattle.parfind.specs.Fitting.{is_fitting_compared}
use Rattle.parfind.specs.KeptDigests.{lesser_of}
use Rattle.parwindow.specs.Window.{WindowState}
use Rattle.parfind.specs.Sought.{Sought, compared_lengths}
use Rattle.parfind.proofs.track_laws.TakenDigestLaws.{looks_on, full_digests}
use Rattle.parfind.proofs.track_laws.EachLengthLaws.{first_more, lesser_there, seen_by, seen_by-all}
use Rattle.parfind.proofs.track_laws.ComparedLaws.{least_agree}
use Rattle.parfind.proofs.tracks.digests.Digests.first_seen.Goals as goal

pub loop-k-preserved : goal.loop-k-preserved
loop-k-preserved c =
    let held = c.loop-k.invariant in
    let next = c.first_seen_at-found.ensures in
    let set = c.args.sought.now.set in
    let sought = c.args.sought.now in
    let least_is : c.lesser-least.result ≡ lesser_of c.loop-k.least c.first_seen_at-found.result = grind (arith, c.lesser-least.ensures) in
    record {
      all = held.all;
      full = full_digests sought c.loop-k.window c.first_seen_at-found.new.window c.first_seen_at-found.new.window.digests next.stays.window_is held.full;
      content = ap (λ (w : WindowState). w.content) next.stays.window_is ∙ held.content;
      keeps = next.keeps;
      stays = looks_on c.args.window.now c.loop-k.window c.first_seen_at-found.new.window c.args.self.now.kept.items c.loop-k.self.kept.items
          c.first_seen_at-found.new.self.kept.items held.stays next.stays;
      seen = rw least_is (first_more set c.args.sought.now.mode c.args.window.now.content c.args.left c.loop-k.k
          (omega (arith, held.all)) c.args.first c.loop-k.least c.first_seen_at-found.result held.seen (rw held.content at next.first));
      there = rw least_is (lesser_there c.loop-k.least c.first_seen_at-found.result (length set.slices) held.there next.there);
    }

pub returns-clause-first : goal.returns-clause-first
returns-clause-first c =
    let held = c.loop-k.invariant in
    let set = c.args.sought.now.set in
    let mode = c.args.sought.now.mode in
    let owns = compared_lengths c.args.sought.now in
    let window = c.args.window.now.content in
    let good = rw (ap (λ (s : Sought). s.set) c.sought.view_is) at c.size-size.ensures.set in
    let all : take c.loop-k.k owns ≡ owns = take_all c.loop-k.k owns (omega (arith, held.all)) in
    least_agree (seen_by set mode window c.args.left owns) (slice_passes set.slices (is_fitting_compared mode window c.args.left))
    (seen_by-all set mode window c.args.left (c.requires.full.full ∙ c.requires.full.made.sized) good)
    c.args.first c.loop-k.least (rw all at held.seen)
