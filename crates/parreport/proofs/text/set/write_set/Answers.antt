use Rattle.std.proofs.Common.{rules, Ok, string_bytes}
use Rattle.parreport.specs.SetText.{set_text}
use Rattle.parreport.specs.declared.status.Status.TheVariants.{Listed}
use Rattle.parreport.proofs.ListingLaws.{listed_ends}
use Rattle.parreport.proofs.text.set.write_set.Goals as goal

pub returns-clause-text : goal.returns-clause-text
returns-clause-text g c =
    let text = set_text c.args.plan.now.packets c.args.set.now in
    let listed = c.write_set_text-listed.new.writer in
    let wrote = rw (c.new-writer.ensures.buffer, c.new-writer.ensures.state, c.as_slice.ensures) at c.in_ok-listed.ensures.buffered in
    let after = rw c.as_bytes.ensures.value at c.write_rest.ensures.text in
    let whole = listed_ends c.write_rest.result (Ok Listed) (g.W.Sink.state c.args.out.now) (g.W.Sink.state listed.sink.now)
    (g.W.Sink.state c.write_rest.new.out) text (string_bytes listed.buffer) wrote after c.write_rest.ensures.fault in
    search (rules, whole)
