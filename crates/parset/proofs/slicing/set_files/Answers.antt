use Rattle.std.proofs.lemmas.Grind.{common_steps}
use Rattle.std.proofs.Common.{◌≡◌, arith}
use Rattle.std.specs.BTreeMap.{get}
use Rattle.parfield.specs.HashOrder.{id_cmp}
use Rattle.parset.specs.Slices.{set_file_of}
use Rattle.parset.proofs.FileLaws.{map_views_more, viewed}
use Rattle.parset.proofs.slicing.set_files.Goals as goal

pub loop-file-preserved : goal.loop-file-preserved
loop-file-preserved c =
    let file = c.file-item.result in let found = c.args.sums.now in
    let shown : c.in_ok-set_file.field-0 ≡ set_file_of (viewed found file) = c.in_ok-set_file.ensures (get id_cmp found file.id) c.contains_key.ensures in
    let more = map_views_more set_file_of found c.args.files.now c.loop-file.file-index file c.loop-file-test.true c.file-item.is in
    let items = c.in_ok-push.ensures.items in cc

pub returns : goal.returns
returns c = grind (arith, common_steps)
