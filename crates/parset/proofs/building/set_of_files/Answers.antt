use Rattle.std.proofs.lemmas.Grind.{common_steps}
use Rattle.std.proofs.Common.{◌+◌, ◌<◌, ◌≤◌, ◌∙◌, ap, arith, length, map, subst, sym}
use Rattle.std.specs.List.{IsDistinct, flat_map}
use Rattle.std.specs.Str.{bytes_eq}
use Rattle.std.specs.List.Sorted.{IsStrictlySortedBy}
use Rattle.parfield.specs.HashOrder.{id_cmp}
use Rattle.std.proofs.lemmas.Result.{IfOk-from_err}
use Rattle.parset.specs.Limits.{exponent_limit, slice_limit}
use Rattle.parset.specs.Slices.{file_views, set_file_of, slices_of_file, file_view_from}
use Rattle.parset.proofs.CreatorLaws.{text_within}
use Rattle.parset.proofs.NameLaws.{shown_names}
use Rattle.parset.proofs.FileLaws.{set_of_files_is}
use Rattle.std.proofs.lemmas.List.Elements.{All-same}
use Rattle.parset.proofs.LimitLaws.{IsShownWithin, files_within}
use Rattle.parset.proofs.RisingLaws.{shown_ids}
use Rattle.parset.proofs.ExponentLaws.{exponents_within}
use Rattle.parset.proofs.SliceLaws.{HasLength, length-shown, length-slices, numbered_slices, slices_within}
use Rattle.parset.proofs.building.set_of_files.Goals as goal

pub returns-in_err-creator : goal.returns-in_err-creator
returns-in_err-creator c = IfOk-from_err _ _ c.from_residual-in_err-creator.ensures.0

pub returns-in_err-asides : goal.returns-in_err-asides
returns-in_err-asides c = IfOk-from_err _ _ c.from_residual-in_err-asides.ensures.0

pub returns : goal.returns
returns c =
    let own = map (λ k. k.now) c.args.own.now in let main = c.args.main.now in
    set_of_files_is c.args.id main own (map (file_view_from main.size own) c.args.files.now) _ _ _ _ _ _
    (c.in_ok-set_files.ensures ∙ ap (map set_file_of) c.in_ok-sums.ensures)
    (c.in_ok-set_slices.ensures ∙ ap (flat_map (slices_of_file main.size)) c.in_ok-sums.ensures)
    c.len.ensures c.in_ok-exponent_count.ensures c.in_ok-creator.ensures c.in_ok-asides.ensures

pub invariant_of-result : goal.invariant_of-result
invariant_of-result c =
    let own = map (λ k. k.now) c.args.own.now in let main = c.args.main.now in let sums = c.in_ok-sums.sums in let files = c.args.files.now in
    let above : 0 < main.size = omega (arith, c.requires.limits.least) in
    let many = ap length c.in_ok-set_files.ensures ∙ length-shown sums files in
    record {
      size = (c.requires.limits.least, c.requires.limits.greatest);
      multiple = c.requires.limits.multiple;
      files = omega (arith, many, c.requires.files.few);
      limits = All-same IsShownWithin _ _ c.in_ok-set_files.ensures (files_within own sums files c.requires.files.described);
      names = subst (IsDistinct bytes_eq) (sym (ap (map (λ f. f.name)) c.in_ok-set_files.ensures ∙ shown_names sums files)) c.requires.files.names;
      rising = subst (IsStrictlySortedBy id_cmp) (sym (ap (map (λ f. f.id)) c.in_ok-set_files.ensures ∙ shown_ids sums files)) c.requires.files.rising;
      slices = subst (λ n. n ≤ slice_limit) (sym (ap length c.in_ok-set_slices.ensures ∙ length-slices main.size sums files)) c.requires.files.few_slices;
      lengths = All-same (HasLength main.size) _ _ c.in_ok-set_slices.ensures (slices_within main.size above sums files);
      numbered = numbered_slices main.size (file_views sums files) _ _ c.in_ok-set_files.ensures c.in_ok-set_slices.ensures;
      others = omega (arith, c.len.ensures, c.requires.limits.few);
      all_ids = omega (arith, many, c.len.ensures, c.requires.files.few);
      have = subst (λ n. n ≤ exponent_limit + 1) (sym c.in_ok-exponent_count.ensures) (exponents_within main.size own);
      creator = text_within own _ c.in_ok-creator.ensures;
    }

pub sums_of-requires-clause-size : goal.sums_of-requires-clause-size
sums_of-requires-clause-size c = grind (arith, common_steps) steps 100000

pub sums_of-requires-clause-described : goal.sums_of-requires-clause-described
sums_of-requires-clause-described c = grind (arith, common_steps) steps 100000

pub returns-in_err-sums : goal.returns-in_err-sums
returns-in_err-sums c = grind (arith, common_steps) steps 100000

pub returns-in_err-set_files : goal.returns-in_err-set_files
returns-in_err-set_files c = grind (arith, common_steps) steps 100000

pub set_slices-requires-clause-size : goal.set_slices-requires-clause-size
set_slices-requires-clause-size c = grind (arith, common_steps) steps 100000

pub set_slices-requires-clause-few : goal.set_slices-requires-clause-few
set_slices-requires-clause-few c = grind (arith, common_steps) steps 100000

pub returns-in_err-set_slices : goal.returns-in_err-set_slices
returns-in_err-set_slices c = grind (arith, common_steps) steps 400000

pub overflow_cast-result : goal.overflow_cast-result
overflow_cast-result c = grind (arith, common_steps) steps 400000

pub returns-in_err-exponent_count : goal.returns-in_err-exponent_count
returns-in_err-exponent_count c = grind (arith, common_steps) steps 400000
