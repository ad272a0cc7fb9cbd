use Rattle.std.proofs.Common.{drop}
use Rattle.std.specs.List.{flat_map}
use Rattle.parreport.specs.SetText.{set_aside_line}
use Rattle.parreport.proofs.WriterLaws.{WritesBut}
use Rattle.parreport.proofs.text.set.lines.write_asides.Given as goal

-- all is written except the lines that are left
abbrev pub invariant-loop-aside : goal.invariant-loop-aside
invariant-loop-aside g l =
    WritesBut g.W.Sink.state l.fn.writer l.writer (flat_map (set_aside_line l.names) l.asides) (flat_map (set_aside_line l.names) (drop l.aside-index l.asides))
