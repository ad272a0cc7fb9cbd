use Rattle.std.proofs.lemmas.Result.{err_from_is_err_and}
use Rattle.parreport.proofs.WriterLaws.{stops_before}
use Rattle.parreport.proofs.text.verify.lines.write_results.Goals as goal

pub returns-in_err-append_results-clause-text : goal.returns-in_err-append_results-clause-text
returns-in_err-append_results-clause-text g c =
    let failed = err_from_is_err_and c.from_residual.result c.from_residual.ensures.1 in
    rw (failed.1, failed.2) (stops_before g.W.Sink.state c.args.writer.now _ _ c.take_buffer-text.ensures.same_sink c.take_buffer-text.ensures.state)
