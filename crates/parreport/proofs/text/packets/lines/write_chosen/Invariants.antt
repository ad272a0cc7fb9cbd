use Rattle.std.proofs.Common.{◌≡◌, ◌+◌, ◌≤◌, drop, length}
use Rattle.std.specs.List.{flat_map}
use Rattle.parreport.specs.PacketsText.{chosen_of, kept_line}
use Rattle.parreport.proofs.WriterLaws.{WritesBut}
use Rattle.parreport.proofs.text.packets.lines.write_chosen.Given as goal

-- all is written except the lines of the packets that are left; and the lines so far are counted
abbrev pub invariant-loop-packet : goal.invariant-loop-packet
invariant-loop-packet g l = record {
  lines : WritesBut g.W.Sink.state l.fn.writer l.writer (flat_map (kept_line l.names) (chosen_of l.choice l.packets))
      (flat_map (kept_line l.names) (chosen_of l.choice (drop l.packet-index l.packets)));
  counted : l.count + length (chosen_of l.choice (drop l.packet-index l.packets)) ≡ length (chosen_of l.choice l.packets);
  few : l.count ≤ l.packet-index;
}
