use Rattle.std.proofs.lemmas.Grind.{common_steps}
use Rattle.std.proofs.Common.{sym, ap, ◌∙◌, arith, inl, inr}
use Rattle.parfind.specs.Expecting.{ShortState}
use Rattle.parfind.specs.Smaller.{part_of}
use Rattle.parfind.specs.Sought.{Sought, sought_of}
use Rattle.parfind.proofs.survey_laws.SurveyGoesOnLaws.{made_same}
use Rattle.parshelf.specs.Reads.{ReadsOnly}
use Rattle.parshelf.specs.Shelf.{ShelfState}
use Rattle.parwindow.specs.Window.{WindowState}
use Rattle.parfind.specs.Surveying.{SurveyState, survey_at}
use Rattle.parfind.proofs.survey_laws.SurveyedLaws.{surveyed_kept, surveyed_no_other, surveyed_full, surveyed_end, surveyed_digests, surveyed_once, surveyed_stops, surveyed_fault}
use Rattle.parfind.proofs.surveys.walk.survey_by.Goals as goal

pub returns-in-Ok : goal.returns-in-Ok
returns-in-Ok g c =
    let sought : Sought = c.args.sought.now in
    let short : ShortState = c.args.short.now in
    let old : SurveyState = survey_at (g.H.Shelf.state c.args.shelf.now) c.clear.new.self c.args.found.now c.new-track.result in
    let s = c.survey_files.new in
    let new : SurveyState = survey_at (g.H.Shelf.state s.shelf) s.window s.found s.track in
    let f = c.survey_files.ensures in
    let ends = f.ends in
    let counted = ap (λ (w : WindowState). w.digests) c.clear.ensures in
    let only : ReadsOnly old.shelf new.shelf = rw c.in-Ok.is at f.shelf in
    record {
      found = λ files reads. elim (rw c.in-Ok.is at ends.all) [
        | inl full ↦ surveyed_full short sought old new ends.cursor ends.surveyed files reads full
        | inr past ↦ surveyed_end short sought old new ends.cursor ends.surveyed files reads (ap (λ (u : ShelfState). u.lengths) only.counts) past
      ];
      seen = f.seen;
      so_far = λ _. tt;
      stops = surveyed_stops short sought old new ends.cursor ends.surveyed;
      digests = λ is files reads. omega (arith, counted, surveyed_digests short sought old new ends.cursor ends.surveyed files reads is);
      kept = surveyed_kept short sought old new ends.cursor ends.surveyed;
      shelf = only;
      handed = surveyed_once short sought old new ends.cursor ends.surveyed;
      unfit = ends.surveyed.unfit;
      none = ends.none;
      window = f.window ∙ ap (λ (w : WindowState). record w { content = s.window.content; digests = s.window.digests }) c.clear.ensures;
    }

pub returns-in-Err : goal.returns-in-Err
returns-in-Err g c =
    let sought : Sought = c.args.sought.now in
    let short : ShortState = c.args.short.now in
    let old : SurveyState = survey_at (g.H.Shelf.state c.args.shelf.now) c.clear.new.self c.args.found.now c.new-track.result in
    let s = c.survey_files.new in
    let new : SurveyState = survey_at (g.H.Shelf.state s.shelf) s.window s.found s.track in
    let f = c.survey_files.ensures in
    let ends = f.ends in
    let counted = ap (λ (w : WindowState). w.digests) c.clear.ensures in
    record {
      found = surveyed_no_other short sought old new ends.cursor ends.surveyed;
      seen = f.seen;
      so_far = λ is. surveyed_fault short sought old new ends.cursor ends.surveyed is ends.first c.file.result (ends.file_is ∙ sym c.file.ensures);
      stops = surveyed_stops short sought old new ends.cursor ends.surveyed;
      digests = λ is files reads. omega (arith, counted, surveyed_digests short sought old new ends.cursor ends.surveyed files reads is);
      kept = surveyed_kept short sought old new ends.cursor ends.surveyed;
      shelf = rw c.file.ensures (rw c.in-Err.is at f.shelf);
      handed = surveyed_once short sought old new ends.cursor ends.surveyed;
      unfit = ends.surveyed.unfit;
      none = ends.none;
      window = f.window ∙ ap (λ (w : WindowState). record w { content = s.window.content; digests = s.window.digests }) c.clear.ensures;
    }

pub prove-unreachable-requires : goal.prove-unreachable-requires
prove-unreachable-requires g c = grind (arith, common_steps) steps 100000

pub unreachable-prove : goal.unreachable-prove
unreachable-prove g c = grind (arith, common_steps) steps 100000

pub survey_files-requires-clause-made : goal.survey_files-requires-clause-made
survey_files-requires-clause-made g c =
    made_same (sought_of (part_of c.args.sought.now.set c.args.smaller.now.index) c.args.sought.now.mode) c.args.window.now c.clear.new.self
    (ap (λ (w : WindowState). w.capacity) c.clear.ensures) (ap (λ (w : WindowState). w.tails) c.clear.ensures) c.requires.made

pub survey_files-requires-clause-each : goal.survey_files-requires-clause-each
survey_files-requires-clause-each g c = grind (arith, common_steps) steps 100000

pub survey_files-requires-clause-small : goal.survey_files-requires-clause-small
survey_files-requires-clause-small g c = grind (arith, common_steps) steps 100000

pub survey_files-requires-clause-empty : goal.survey_files-requires-clause-empty
survey_files-requires-clause-empty g c = grind (arith, common_steps) steps 100000

pub survey_files-requires-clause-unread : goal.survey_files-requires-clause-unread
survey_files-requires-clause-unread g c = grind (arith, common_steps) steps 100000
