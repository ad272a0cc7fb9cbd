use Rattle.std.proofs.Common.{rules, Ok, string_bytes}
use Rattle.parreport.specs.Names.{names_of}
use Rattle.parreport.specs.VerifyText.{status_of, findings_text}
use Rattle.parreport.proofs.ListingLaws.{listed_ends}
use Rattle.parreport.proofs.text.verify.write_findings.Goals as goal

pub returns-clause-text : goal.returns-clause-text
returns-clause-text g c =
    let text = findings_text c.args.quiet c.args.set.now (names_of c.args.files.now) c.args.findings.now in
    let told = c.write_verify_text-told.new.writer in
    let wrote = rw (c.new-writer.ensures.buffer, c.new-writer.ensures.state) at c.in_ok-status.ensures.text.buffered in
    let after = rw (c.as_bytes.ensures.value, c.in_ok-status.ensures.status) at c.write_rest.ensures.text in
    let whole = listed_ends c.write_rest.result (Ok (status_of c.args.set.now c.args.findings.now)) (g.W.Sink.state c.args.out.now) (g.W.Sink.state told.sink.now)
    (g.W.Sink.state c.write_rest.new.out) text (string_bytes told.buffer) wrote after c.write_rest.ensures.fault in
    search (rules, whole)
