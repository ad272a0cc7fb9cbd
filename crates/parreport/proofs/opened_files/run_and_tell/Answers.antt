use Rattle.std.proofs.Common.{subst}
use Rattle.parreport.specs.Ends.{run_end_of}
use Rattle.parreport.specs.OpenedFiles.{TellsEnd}
use Rattle.parreport.proofs.opened_files.run_and_tell.Goals as goal

pub returns : goal.returns
returns g c =
    let ran = c.run-answer.ensures in
    let end = run_end_of c.args.plan.now c.run-answer.result in record {
      answer = c.run-answer.result;
      told = subst (λ end. TellsEnd end c.tell.result) {y = end} c.run_end-end.ensures c.tell.ensures;
      report = λ files reads. record { text = ran.text files reads; lines = ran.lines files reads };
      nothing_written = ran.nothing_written;
      packets_read = ran.packets;
      scanned_read = ran.scanned;
      cause = ran.cause;
      sink = ran.sink;
      list = ran.list;
      untouched = ran.untouched;
    }
