use Rattle.std.proofs.lemmas.Grind.{common_steps}
use Rattle.std.proofs.Common.{◌+◌, drop, arith}
use Rattle.std.proofs.lemmas.Result.{err_from_is_err_and}
use Rattle.std.specs.List.{flat_map}
use Rattle.parreport.specs.Lines.{file_line}
use Rattle.parreport.proofs.ListingLaws.{rest_more}
use Rattle.parreport.proofs.WriterLaws.{writes_line, stops_line}
use Rattle.parreport.proofs.text.set.lines.write_files.Goals as goal

pub returns-in_err-write_file : goal.returns-in_err-write_file
returns-in_err-write_file g c =
    let xs = c.args.files.now in let i = c.loop-file.file-index in let x = c.file-item.result in
    let failed = err_from_is_err_and c.from_residual.result c.from_residual.ensures.1 in
    rw (failed.1, failed.2)
    (stops_line g.W.Sink.state (file_line c.args.size) (drop i xs) x (drop (i + 1) xs) (rest_more xs i x c.loop-file-test.true c.file-item.is)
    c.args.writer.now c.loop-file.writer c.write_file.new.writer (flat_map (file_line c.args.size) xs) c.loop-file.invariant _ c.in_err-write_file.ensures)

pub loop-file-preserved : goal.loop-file-preserved
loop-file-preserved g c =
    let xs = c.args.files.now in let i = c.loop-file.file-index in let x = c.file-item.result in
    writes_line g.W.Sink.state (file_line c.args.size) (drop i xs) x (drop (i + 1) xs) (rest_more xs i x c.loop-file-test.true c.file-item.is)
    c.args.writer.now c.loop-file.writer c.write_file.new.writer (flat_map (file_line c.args.size) xs) c.loop-file.invariant _ c.in_ok-write_file.ensures

pub loop-file-init : goal.loop-file-init
loop-file-init g c = grind (arith, common_steps)

pub returns : goal.returns
returns g c = grind (arith, common_steps)
