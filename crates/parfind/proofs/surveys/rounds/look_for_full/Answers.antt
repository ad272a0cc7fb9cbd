use Rattle.std.proofs.Common.{◌≡◌, ℕ, true, length, sym, ap, ◌∙◌, subst}
use Rattle.std.proofs.lemmas.Result.{err_from_is_err_and}
use Rattle.parwindow.specs.Index.{SliceSet}
use Rattle.parwindow.specs.Missing.{found_at, missing_set}
use Rattle.parfind.specs.declared.tracks.mode.Mode.TheVariants.{Plain, Tails}
use Rattle.parfind.specs.Expecting.{FitsAlso, ShortState, flags_of}
use Rattle.parfind.specs.Handover.{SkipsUnfit}
use Rattle.parfind.specs.Sought.{sought_of}
use Rattle.parfind.specs.Steps.{scan_of}
use Rattle.parfind.specs.Surveys.{FindsNoOther, FindsSighted, is_sighted}
use Rattle.parfind.proofs.survey_laws.MissingSetLaws.{as_many}
use Rattle.parfind.proofs.survey_laws.PartLaws.{whole_part}
use Rattle.parfind.proofs.survey_laws.RoundLaws.{first_finds, first_no_other, fits_of_part, seen_sighted}
use Rattle.parfind.proofs.surveys.rounds.look_for_full.Goals as goal

pub survey_by-answer-requires-clause-each : goal.survey_by-answer-requires-clause-each
survey_by-answer-requires-clause-each g c =
    let set = c.args.index.now in
    let lost = c.in_ok-lost.lost.items in
    let whole_is : c.in_ok-whole.whole ≡ missing_set set lost = c.in_ok-whole.ensures ∙ ap (missing_set set) c.deref.ensures.value in
    c.requires.each ∙ sym (ap (λ (s : SliceSet). length s.slices) whole_is ∙ as_many set.slices lost c.in_ok-lost.ensures.each)

pub survey_by-answer-requires-clause-part : goal.survey_by-answer-requires-clause-part
survey_by-answer-requires-clause-part g c = rw (c.none_yet-smaller.ensures.index) (whole_part c.in_ok-whole.whole c.args.found.now)

pub returns-clause-found : goal.returns-clause-found
returns-clause-found g c = λ files reads.
    let set = c.args.index.now in
    let was = c.args.found.now in
    let lost = c.in_ok-lost.lost.items in
    let whole_is : c.in_ok-whole.whole ≡ missing_set set lost = c.in_ok-whole.ensures ∙ ap (missing_set set) c.deref.ensures.value in
    let after = c.survey_by-answer.new in
    let mid = after.found in
    let counted : length mid ≡ length set.slices = c.survey_by-answer.auto.found ∙ c.requires.each in
    let sees : (n : ℕ) → found_at (flags_of after.short.seen) n ≡ true → is_sighted (scan_of (sought_of set Tails) files) n ≡ true =
    seen_sighted (g.H.Shelf.state after.shelf) set c.in_ok-short.short after.short c.in_ok-short.ensures c.survey_by-answer.ensures.seen files reads in
    first_finds set c.size-size.ensures.set was lost c.in_ok-lost.ensures.each c.in_ok-lost.ensures.lost files mid c.note.new.found
    (flags_of after.short.seen) counted c.note.auto.found c.note.ensures sees
    (subst (λ (s : SliceSet). FindsSighted (scan_of (sought_of s Plain) files) was mid) whole_is (c.in_ok-answer.ensures.found files reads))

pub returns-in_err-answer-clause-found : goal.returns-in_err-answer-clause-found
returns-in_err-answer-clause-found g c = λ files reads.
    let set = c.args.index.now in
    let was = c.args.found.now in
    let lost = c.in_ok-lost.lost.items in
    let whole_is : c.in_ok-whole.whole ≡ missing_set set lost = c.in_ok-whole.ensures ∙ ap (missing_set set) c.deref.ensures.value in
    let after = c.survey_by-answer.new in
    let mid = after.found in
    let counted : length mid ≡ length set.slices = c.survey_by-answer.auto.found ∙ c.requires.each in
    let sees : (n : ℕ) → found_at (flags_of after.short.seen) n ≡ true → is_sighted (scan_of (sought_of set Tails) files) n ≡ true =
    seen_sighted (g.H.Shelf.state after.shelf) set c.in_ok-short.short after.short c.in_ok-short.ensures c.survey_by-answer.ensures.seen files reads in
    let failed = err_from_is_err_and c.from_residual-in_err-answer.result c.from_residual-in_err-answer.ensures.1 in
    rw failed.1
    (first_no_other set c.size-size.ensures.set was lost c.in_ok-lost.ensures.each c.in_ok-lost.ensures.lost files mid c.note.new.found
    (flags_of after.short.seen) counted c.note.auto.found c.note.ensures sees
    (subst (λ (s : SliceSet). FindsNoOther (scan_of (sought_of s Plain) files) was mid) whole_is (c.in_err-answer.ensures.found files reads)))

pub survey_by-answer-requires-clause-wider : goal.survey_by-answer-requires-clause-wider
survey_by-answer-requires-clause-wider g c =
    let set = c.args.index.now in
    let found = c.args.found.now in
    let lost = c.in_ok-lost.lost.items in
    let whole_is : c.in_ok-whole.whole ≡ missing_set set lost = c.in_ok-whole.ensures ∙ ap (missing_set set) c.deref.ensures.value in
    let short_is : c.in_ok-short.short.set ≡ set = ap (λ (s : ShortState). s.set) c.in_ok-short.ensures in
    subst (λ (s : SliceSet). FitsAlso (missing_set c.in_ok-whole.whole found) (missing_set s found)) (sym short_is)
    (subst (λ (w : SliceSet). FitsAlso (missing_set w found) (missing_set set found)) (sym whole_is)
    (fits_of_part set found c.requires.each lost c.in_ok-lost.ensures.each))

pub returns-clause-unfit : goal.returns-clause-unfit
returns-clause-unfit g c =
    let s = g.H.Shelf.state c.args.shelf.now in
    let t = g.H.Shelf.state c.survey_by-answer.new.shelf in
    subst (λ (w : SliceSet). SkipsUnfit (missing_set w c.args.found.now) s t) (ap (λ (x : ShortState). x.set) c.in_ok-short.ensures)
    c.survey_by-answer.ensures.unfit

pub returns-in_err-answer-clause-unfit : goal.returns-in_err-answer-clause-unfit
returns-in_err-answer-clause-unfit g c =
    let s = g.H.Shelf.state c.args.shelf.now in
    let t = g.H.Shelf.state c.survey_by-answer.new.shelf in
    subst (λ (w : SliceSet). SkipsUnfit (missing_set w c.args.found.now) s t) (ap (λ (x : ShortState). x.set) c.in_ok-short.ensures)
    c.survey_by-answer.ensures.unfit
