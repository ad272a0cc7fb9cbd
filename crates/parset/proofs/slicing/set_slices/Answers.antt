use Rattle.std.proofs.lemmas.Grind.{common_steps}
use Rattle.std.proofs.Common.{ap, arith}
use Rattle.parset.specs.Slices.{file_view, slices_of_file}
use Rattle.parset.proofs.FileLaws.{flat_map_views_more}
use Rattle.parset.proofs.slicing.set_slices.Goals as goal

pub loop-file-preserved : goal.loop-file-preserved
loop-file-preserved c =
    let file = c.file-item.result in let size = c.args.size in
    let found = ap (λ o. slices_of_file size (file_view file o)) c.get.ensures.value in
    let more = flat_map_views_more (slices_of_file size) c.args.sums.now c.args.files.now c.loop-file.file-index file c.loop-file-test.true c.file-item.is in
    let items = c.in_ok-add_slices.ensures in cc

pub add_slices-requires-clause-few : goal.add_slices-requires-clause-few
add_slices-requires-clause-few c = grind (arith, common_steps)

pub returns : goal.returns
returns c = grind (arith, common_steps)
