use Rattle.std.proofs.lemmas.Grind.{common_steps}
use Rattle.std.proofs.Common.{◌+◌, drop, arith}
use Rattle.std.proofs.lemmas.List.{drop_more}
use Rattle.std.proofs.lemmas.Result.{err_from_is_err_and}
use Rattle.std.specs.List.{flat_map}
use Rattle.parreport.specs.SetText.{set_aside_line}
use Rattle.parreport.proofs.WriterLaws.{writes_line, stops_line}
use Rattle.parreport.proofs.text.set.lines.write_asides.Goals as goal

pub returns-in_err-write_aside : goal.returns-in_err-write_aside
returns-in_err-write_aside g c =
    let xs = c.args.asides.now in let i = c.loop-aside.aside-index in
    let line = set_aside_line c.args.names.now in
    let stopped = rw c.packet_name.ensures at c.in_err-write_aside.ensures in
    let failed = err_from_is_err_and c.from_residual.result c.from_residual.ensures.1 in
    rw (failed.1, failed.2)
    (stops_line g.W.Sink.state line (drop i xs) _ (drop (i + 1) xs) (drop_more xs i _ c.loop-aside-test.true)
    c.args.writer.now c.loop-aside.writer c.write_aside.new.writer (flat_map line xs) c.loop-aside.invariant _ stopped)

pub loop-aside-preserved : goal.loop-aside-preserved
loop-aside-preserved g c =
    let xs = c.args.asides.now in let i = c.loop-aside.aside-index in
    let line = set_aside_line c.args.names.now in
    let wrote = rw c.packet_name.ensures at c.in_ok-write_aside.ensures in
    writes_line g.W.Sink.state line (drop i xs) _ (drop (i + 1) xs) (drop_more xs i _ c.loop-aside-test.true)
    c.args.writer.now c.loop-aside.writer c.write_aside.new.writer (flat_map line xs) c.loop-aside.invariant _ wrote

pub loop-aside-init : goal.loop-aside-init
loop-aside-init g c = grind (arith, common_steps)

pub returns : goal.returns
returns g c = grind (arith, common_steps)
