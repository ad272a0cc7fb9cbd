use Rattle.std.proofs.lemmas.Grind.{common_steps}
use Rattle.std.proofs.Common.{◌<◌, ◌+◌, arith, drop, get_or, length, unwrap_or}
use Rattle.std.proofs.lemmas.Result.{err_from_is_err_and}
use Rattle.std.specs.BTreeMap.{get}
use Rattle.std.specs.List.{flat_map, zip}
use Rattle.parfield.specs.HashOrder.{id_cmp}
use Rattle.parfield.specs.declared.hash16.Hash16.{Hash16}
use Rattle.parreport.specs.Names.{names_of}
use Rattle.parreport.specs.declared.states.state.State.TheVariants.{Complete}
use Rattle.parreport.specs.VerifyText.{counted_line}
use Rattle.parreport.proofs.ListingLaws.{pairs_more}
use Rattle.parreport.proofs.WriterLaws.{writes_line, stops_line}
use Rattle.parreport.proofs.text.verify.lines.write_files.Goals as goal

pub returns-in_err-write_file : goal.returns-in_err-write_file
returns-in_err-write_file g c =
    let files = c.args.files.now in let states = c.args.states.now in let i = c.loop-index.index in
    let file = c.index-files-index.result in let state = get_or states i Complete in
    let there : i < length states = omega (arith, c.requires.states) in
    let line = counted_line c.args.size (names_of c.args.names.now) (λ (id : Hash16). unwrap_or (get id_cmp c.args.counts.now id) 0) in
    let failed = err_from_is_err_and c.from_residual.result c.from_residual.ensures.1 in
    rw (failed.1, failed.2)
    (stops_line g.W.Sink.state line (zip (drop i files) (drop i states)) (file, state) (zip (drop (i + 1) files) (drop (i + 1) states))
    (pairs_more files states i file Complete c.loop-index-test.true there c.index-files-index.is)
    c.args.writer.now c.loop-index.writer c.write_file.new.writer (flat_map line (zip files states)) c.loop-index.invariant _ c.in_err-write_file.ensures)

pub loop-index-preserved : goal.loop-index-preserved
loop-index-preserved g c =
    let files = c.args.files.now in let states = c.args.states.now in let i = c.loop-index.index in
    let file = c.index-files-index.result in let state = get_or states i Complete in
    let there : i < length states = omega (arith, c.requires.states) in
    let line = counted_line c.args.size (names_of c.args.names.now) (λ (id : Hash16). unwrap_or (get id_cmp c.args.counts.now id) 0) in
    writes_line g.W.Sink.state line (zip (drop i files) (drop i states)) (file, state) (zip (drop (i + 1) files) (drop (i + 1) states))
    (pairs_more files states i file Complete c.loop-index-test.true there c.index-files-index.is)
    c.args.writer.now c.loop-index.writer c.write_file.new.writer (flat_map line (zip files states)) c.loop-index.invariant _ c.in_ok-write_file.ensures

pub loop-index-init : goal.loop-index-init
loop-index-init g c = grind (arith, common_steps)

pub returns : goal.returns
returns g c = grind (arith, common_steps)
