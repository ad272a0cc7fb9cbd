use Rattle.std.proofs.Common.{◌++◌, ◌∷◌, ◌∙◌, [], ap, append_assoc, map, option_map, sym, zero-add}
use Rattle.std.specs.List.{range_with_len}
use Rattle.std.proofs.lemmas.List.FromFn.{map-range_with_len_more}
use Rattle.parset.specs.Slices.{file_view, slice_of}
use Rattle.parset.proofs.slicing.add_slices.Goals as goal

pub loop-number-preserved : goal.loop-number-preserved
loop-number-preserved c =
    let n = c.loop-number.number in let before = c.args.slices.now.items in
    let f = slice_of c.args.size (file_view c.args.file.now (option_map (λ k. k.now) c.args.sums)) in
    c.in_ok-push.ensures.items
    ∙ (ap (λ x. c.loop-number.slices.items ++ x ∷ []) c.set_slice.ensures
    ∙ (ap (λ xs. xs ++ f n ∷ []) c.loop-number.invariant
    ∙ (append_assoc before (map f (range_with_len 0 n)) (f n ∷ []) ∙ ap (λ xs. before ++ xs) (sym (map-range_with_len_more f 0 n n (zero-add n))))))
