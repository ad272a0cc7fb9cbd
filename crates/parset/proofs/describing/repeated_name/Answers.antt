use Rattle.std.proofs.Common.{◌≡◌, ◌∙◌, rules, Some, Bool, Bor, List, ap, cond, false, get_or, nat_cmp, not, option_map, sym, take, true, ℕ}
use Rattle.std.specs.BTreeSet.{contains_by}
use Rattle.std.specs.Cmp.Lexicographic.{slice_cmp}
use Rattle.std.specs.List.{list_any}
use Rattle.std.specs.Ordering.{is_eq}
use Rattle.parset.specs.SharedNames.{has_name}
use Rattle.parset.proofs.SharedNameLaws.{name_more, repeated_here, repeated_later, repeated_name-from, repeated_nowhere}
use Rattle.parset.proofs.describing.repeated_name.Goals as goal

not_true : (a b : Bool) → b ≡ not a → b ≡ true → a ≡ false
not_true true b e f = cc
not_true false b e f = cc

not_false : (a b : Bool) → b ≡ not a → b ≡ false → a ≡ true
not_false true b e f = cc
not_false false b e f = cc

pub returns-then-not-branch : goal.returns-then-not-branch
returns-then-not-branch c =
    let files = c.args.files.now in let i = c.loop-file.file-index in let file = c.file-item.result in
    let added : contains_by (λ k. slice_cmp nat_cmp c.as_slice.result.now k.now) c.loop-file.names ≡ true = not_false _ _ c.in_ok-insert.ensures.added c.if-not-branch.true in
    let has : list_any (has_name (get_or files i file).name) (take i files) ≡ true =
    ap (λ f. list_any (has_name f.name) (take i files)) (sym c.file-item.is)
    ∙ (sym (c.loop-file.invariant.names file.name) ∙ (ap (λ name. contains_by (λ k. slice_cmp nat_cmp name k.now) c.loop-file.names) (sym c.as_slice.ensures) ∙ added)) in
    ap (λ f. Some f.id) c.file-item.is ∙ sym (ap (option_map (λ f. f.id)) (c.loop-file.invariant.distinct ∙ repeated_here files i file c.loop-file-test.true has))

pub loop-file-preserved : goal.loop-file-preserved
loop-file-preserved c =
    let files = c.args.files.now in let i = c.loop-file.file-index in let file = c.file-item.result in
    let absent : contains_by (λ k. slice_cmp nat_cmp c.as_slice.result.now k.now) c.loop-file.names ≡ false = not_true _ _ c.in_ok-insert.ensures.added c.if-not-branch.false in
    let lacks : list_any (has_name (get_or files i file).name) (take i files) ≡ false =
    ap (λ f. list_any (has_name f.name) (take i files)) (sym c.file-item.is)
    ∙ (sym (c.loop-file.invariant.names file.name) ∙ (ap (λ name. contains_by (λ k. slice_cmp nat_cmp name k.now) c.loop-file.names) (sym c.as_slice.ensures) ∙ absent)) in
    record {
      names = λ name.
          let key : Bor (List ℕ) = record { ref_ptr = (0, 0); now = name } in
          name_more files i file c.loop-file-test.true c.file-item.is name _ _ (c.loop-file.invariant.names name)
          (c.in_ok-insert.ensures.updates.0 key
          ∙ ap (λ own. cond (is_eq (slice_cmp nat_cmp own name)) true (contains_by (λ k. slice_cmp nat_cmp name k.now) c.loop-file.names)) c.as_slice.ensures);
      distinct = c.loop-file.invariant.distinct ∙ repeated_later files i file c.loop-file-test.true lacks;
    }

pub loop-file-init : goal.loop-file-init
loop-file-init c = record { names = λ name. search rules; distinct = repeated_name-from c.args.files.now }

pub returns : goal.returns
returns c =
    sym (ap (option_map (λ f. f.id)) (c.loop-file.invariant.distinct ∙ repeated_nowhere c.args.files.now c.loop-file.file-index c.loop-file-test.false))
