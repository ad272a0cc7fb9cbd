use Rattle.std.proofs.lemmas.Result.{err_from_is_err_and}
use Rattle.std.proofs.Common.{length}
use Rattle.std.specs.List.{flat_map}
use Rattle.parreport.specs.Lines.{count_line}
use Rattle.parreport.specs.PacketsText.{packets_text, chosen_of, kept_line}
use Rattle.parreport.proofs.WriterLaws.{writes_none, writes_part, stops_part, writes_last}
use Rattle.parreport.proofs.text.packets.lines.write_packets_text.Goals as goal

pub returns-in_err-count : goal.returns-in_err-count
unfolding packets_text
returns-in_err-count g c =
    let failed = err_from_is_err_and c.from_residual.result c.from_residual.ensures.1 in
    rw (failed.1, failed.2)
    (stops_part g.W.Sink.state c.args.writer.now c.args.writer.now _ _ _ _ (writes_none g.W.Sink.state c.args.writer.now _) _ c.in_err-count.ensures.lines)

pub returns : goal.returns
unfolding packets_text
returns g c =
    let chosen = chosen_of c.args.choice c.args.packets.now in
    let lines = flat_map (kept_line c.args.names.now) chosen in let last = count_line (length chosen) in
    let old = c.args.writer.now in let state = g.W.Sink.state in
    let before = writes_part state old old c.write_chosen.new.writer (packets_text c.args.names.now c.args.choice c.args.packets.now) lines last
    (writes_none state old _) _ c.in_ok-count.ensures.lines in
    let counted = rw c.in_ok-count.ensures.count at c.write_count.ensures in
    writes_last state old c.write_chosen.new.writer c.write_count.new.writer (packets_text c.args.names.now c.args.choice c.args.packets.now) last
    c.write_count.result before counted
