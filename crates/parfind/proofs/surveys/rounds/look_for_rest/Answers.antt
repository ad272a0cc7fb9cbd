use Rattle.std.proofs.Common.{arith, length, refl, sym, ap, ◌∙◌, subst}
use Rattle.parwindow.specs.Index.{SliceSet}
use Rattle.parwindow.specs.Missing.{missing_set}
use Rattle.parfind.specs.declared.tracks.mode.Mode.TheVariants.{Tails}
use Rattle.parfind.specs.Handover.{SkipsUnfit}
use Rattle.parfind.specs.Rounds.{WaitsFor}
use Rattle.parfind.specs.Sought.{HasFewTails, sought_of}
use Rattle.parfind.specs.Steps.{scan_of}
use Rattle.parfind.specs.Surveys.{SurveyFinds}
use Rattle.parfind.proofs.survey_laws.MissingSetLaws.{as_many, few_missing}
use Rattle.parfind.proofs.survey_laws.RoundLaws.{every_result, none_left, second_result, skips_part, tails_of_part, tails_of_whole}
use Rattle.parfind.proofs.surveys.rounds.look_for_rest.Goals as goal

pub look_by-requires-clause-each : goal.look_by-requires-clause-each
look_by-requires-clause-each g c =
    let rest = c.in-Ok.ensures in
    c.requires.each ∙ sym (ap (λ (s : SliceSet). length s.slices) rest.part_is ∙ as_many c.args.index.now.slices rest.lost rest.each)

pub look_by-requires-clause-few : goal.look_by-requires-clause-few
look_by-requires-clause-few g c =
    let rest = c.in-Ok.ensures in
    subst (λ (s : SliceSet). HasFewTails (sought_of s Tails)) (sym rest.part_is) (few_missing c.args.index.now rest.lost Tails c.requires.few)

pub look_by-requires-clause-waiting : goal.look_by-requires-clause-waiting
look_by-requires-clause-waiting g c =
    let rest = c.in-Ok.ensures in
    let waits : WaitsFor (missing_set c.args.index.now rest.lost) c.args.tails = rw c.requires.waiting (record {
      sized = refl;
      lengths_are = tails_of_part c.args.index.now rest.lost rest.each;
    }) in
    subst (λ (s : SliceSet). WaitsFor s c.args.tails) (sym rest.part_is) waits

pub look_by-requires-in-Err-clause-waiting : goal.look_by-requires-in-Err-clause-waiting
look_by-requires-in-Err-clause-waiting g c =
    rw c.requires.waiting (record { sized = refl; lengths_are = tails_of_whole c.args.index.now })

pub returns-in-Ok-clause-found : goal.returns-in-Ok-clause-found
returns-in-Ok-clause-found g c = λ files reads.
    let rest = c.in-Ok.ensures in
    let now = c.look_by.new.found in
    second_result c.args.index.now c.args.found.now now rest.lost rest.each (c.look_by.auto.found ∙ c.requires.each) rest.lost_is files c.look_by.result
    (subst (λ (s : SliceSet). SurveyFinds (scan_of (sought_of s Tails) files) c.args.found.now now c.look_by.result) rest.part_is (c.look_by.ensures.found files reads))

pub returns-in-Ok-clause-unfit : goal.returns-in-Ok-clause-unfit
returns-in-Ok-clause-unfit g c =
    let rest = c.in-Ok.ensures in
    let s = g.H.Shelf.state c.args.shelf.now in
    let t = g.H.Shelf.state c.look_by.new.shelf in
    skips_part c.args.index.now c.args.found.now c.requires.each rest.lost rest.each s t
    (subst (λ (w : SliceSet). SkipsUnfit (missing_set w c.args.found.now) s t) rest.part_is c.look_by.ensures.unfit)

pub returns-in-Err-clause-found : goal.returns-in-Err-clause-found
returns-in-Err-clause-found g c = λ files reads.
    let now = c.look_by-in-Err.new.found in
    every_result (scan_of (sought_of c.args.index.now Tails) files) c.args.found.now now (c.look_by-in-Err.auto.found ∙ c.requires.each)
    c.look_by-in-Err.result (c.look_by-in-Err.ensures.found files reads)

pub returns-then-least_missing-size-clause-found : goal.returns-then-least_missing-size-clause-found
returns-then-least_missing-size-clause-found g c = λ files reads.
    none_left c.args.index.now c.size.ensures.set c.args.found.now c.requires.each c.least_missing.result c.least_missing.ensures.least
    (omega arith) files
