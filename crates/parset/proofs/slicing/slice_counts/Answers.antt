use Rattle.std.proofs.Common.{◌∙◌, Some, ap, cond, subst}
use Rattle.std.specs.BTreeMap.{get}
use Rattle.std.specs.Ordering.{is_eq}
use Rattle.std.proofs.lemmas.List.{take_all}
use Rattle.parfield.specs.HashOrder.{id_cmp}
use Rattle.parset.specs.Slices.{HasCounts}
use Rattle.parset.proofs.FileLaws.{counts_more}
use Rattle.parset.proofs.slicing.slice_counts.Goals as goal

pub loop-file-preserved : goal.loop-file-preserved
loop-file-preserved c =
    let file = c.file-item.result in let old = c.loop-file.counts in
    counts_more c.args.size old c.insert.new.self c.args.files.now c.loop-file.file-index file c.loop-file-test.true c.file-item.is
    (λ id. c.in_ok-insert.ensures.updates.0 id ∙ ap (λ n. cond (is_eq (id_cmp file.id id)) (Some n) (get id_cmp old id)) c.slice_count.ensures)
    c.loop-file.invariant

pub returns : goal.returns
returns c =
    subst (HasCounts c.args.size c.loop-file.counts) (take_all c.loop-file.file-index c.args.files.now c.loop-file-test.false) c.loop-file.invariant
