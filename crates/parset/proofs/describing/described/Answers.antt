use Rattle.std.proofs.Common.{arith, ◌≡◌, ◌+◌, ◌∙◌, ap, drop, map, sym, Some, None, Ok, get_or, []}
use Rattle.std.proofs.lemmas.Grind.{common_steps}
use Rattle.parfield.specs.declared.hash16.Hash16.{Hash16}
use Rattle.parset.specs.Choosing.{file_description_of}
use Rattle.parset.proofs.DescribingLaws.{appended, described_all, described_more, described_none}
use Rattle.parset.specs.RecoverySet.{descriptions_of}
use Rattle.parset.proofs.describing.described.Goals as goal

pub returns-in-None : goal.returns-in-None
returns-in-None c =
    let own = map (λ k. k.now) c.args.own.now in
    let d : Hash16 = record { 0 = [] } in
    let id = get_or c.args.ids.now c.loop-id.id-index d in
    let none : file_description_of id own ≡ None = sym (c.in_ok-found.ensures id) ∙ sym c.in-None.ensures.value in
    c.loop-id.invariant ∙ described_none own c.args.ids.now c.loop-id.id-index d c.loop-id.files.items c.loop-id-test.true none

pub loop-id-preserved : goal.loop-id-preserved
loop-id-preserved c =
    let own = map (λ k. k.now) c.args.own.now in
    let d : Hash16 = record { 0 = [] } in
    let id = get_or c.args.ids.now c.loop-id.id-index d in
    let found : file_description_of id own ≡ Some c.in-Some.file.now = sym (c.in_ok-found.ensures id) ∙ sym c.in-Some.ensures.value in
    c.loop-id.invariant
    ∙ (described_more own c.args.ids.now c.loop-id.id-index d c.loop-id.files.items c.in-Some.file.now c.loop-id-test.true found
    ∙ ap (λ files. appended files (descriptions_of own (drop (c.loop-id.id-index + 1) c.args.ids.now))) (sym c.in_ok-push_description-in-Some.ensures))

pub returns : goal.returns
returns c =
    c.loop-id.invariant
    ∙ (described_all (map (λ k. k.now) c.args.own.now) c.args.ids.now c.loop-id.id-index c.loop-id.files.items c.loop-id-test.false
    ∙ ap Ok (sym c.from_vec.ensures))

pub returns-in_err-found : goal.returns-in_err-found
returns-in_err-found c = grind (arith, common_steps) steps 100000

pub loop-id-init : goal.loop-id-init
loop-id-init c = grind (arith, common_steps) steps 100000

pub offset_bounds-ids-id-index : goal.offset_bounds-ids-id-index
offset_bounds-ids-id-index c = grind (arith, common_steps) steps 100000

pub returns-in_err-push_description-in-Some : goal.returns-in_err-push_description-in-Some
returns-in_err-push_description-in-Some c = grind (arith, common_steps) steps 400000
