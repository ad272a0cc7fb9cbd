use Rattle.std.proofs.lemmas.Grind.{common_steps}
use Rattle.std.proofs.Common.{◌∙◌, Ok, ap, arith, map, subst, sym}
use Rattle.std.proofs.lemmas.Result.{err_from_is_err_and}
use Rattle.parset.specs.RecoverySet.{AreSetFiles, ids_in_order, set_of_files}
use Rattle.parset.specs.Slices.{file_view_from}
use Rattle.parset.proofs.SetLaws.{files_by_ids, files_found, not_described, not_few, not_named, set_made}
use Rattle.parset.proofs.building.set_of_main.Goals as goal

pub returns-in_err-described : goal.returns-in_err-described
returns-in_err-described c =
    not_described c.args.id c.args.main.now (map (λ k. k.now) c.args.own.now) _ _ _
    (c.as_slice-2.ensures.value ∙ (c.in_ok-ids.ensures ∙ ap ids_in_order c.as_slice.ensures))
    (err_from_is_err_and c.from_residual-in_err-described.result c.from_residual-in_err-described.ensures.1)
    c.in_err-described.ensures

pub returns-in_err-named : goal.returns-in_err-named
returns-in_err-named c =
    not_named c.args.id c.args.main.now (map (λ k. k.now) c.args.own.now) _ c.in_ok-described.described _ _
    (c.as_slice-2.ensures.value ∙ (c.in_ok-ids.ensures ∙ ap ids_in_order c.as_slice.ensures))
    c.in_ok-described.ensures
    (err_from_is_err_and c.from_residual-in_err-named.result c.from_residual-in_err-named.ensures.1)
    c.in_err-named.ensures

pub returns-in_err-files : goal.returns-in_err-files
returns-in_err-files c =
    not_few c.args.id c.args.main.now (map (λ k. k.now) c.args.own.now) _ c.in_ok-described.described c.in_ok-named.named _ _
    (c.as_slice-2.ensures.value ∙ (c.in_ok-ids.ensures ∙ ap ids_in_order c.as_slice.ensures))
    c.in_ok-described.ensures c.in_ok-named.ensures
    (err_from_is_err_and c.from_residual-in_err-files.result c.from_residual-in_err-files.ensures.1)
    c.in_err-files.ensures

pub set_of_files-requires-clause-files : goal.set_of_files-requires-clause-files
set_of_files-requires-clause-files c =
    let main = c.args.main.now in let own = map (λ k. k.now) c.args.own.now in
    let finds = files_by_ids main own _ c.in_ok-described.described c.in_ok-named.named c.in_ok-files.files
    (c.as_slice-2.ensures.value ∙ (c.in_ok-ids.ensures ∙ ap ids_in_order c.as_slice.ensures))
    c.in_ok-described.ensures c.in_ok-named.ensures c.in_ok-files.ensures in
    subst (AreSetFiles main own) (sym c.as_slice-3.ensures) (files_found main own c.in_ok-files.files c.requires finds)

pub returns : goal.returns
returns c =
    let main = c.args.main.now in let own = map (λ k. k.now) c.args.own.now in
    let finds = files_by_ids main own _ c.in_ok-described.described c.in_ok-named.named c.in_ok-files.files
    (c.as_slice-2.ensures.value ∙ (c.in_ok-ids.ensures ∙ ap ids_in_order c.as_slice.ensures))
    c.in_ok-described.ensures c.in_ok-named.ensures c.in_ok-files.ensures in
    set_made c.args.id main own c.in_ok-files.files finds
    ∙ (sym (ap (λ files. Ok (set_of_files c.args.id main own (map (file_view_from main.size own) files))) c.as_slice-3.ensures)
    ∙ ap Ok (sym c.in_ok-set_of_files.ensures))

pub returns-in_err-ids : goal.returns-in_err-ids
returns-in_err-ids c = grind (arith, common_steps) steps 100000

pub slices_checked-requires : goal.slices_checked-requires
slices_checked-requires c = grind (arith, common_steps) steps 100000

pub set_of_files-requires-clause-limits : goal.set_of_files-requires-clause-limits
set_of_files-requires-clause-limits c = grind (arith, common_steps) steps 100000

pub returns-in_err-set_of_files : goal.returns-in_err-set_of_files
returns-in_err-set_of_files c = grind (arith, common_steps) steps 400000
