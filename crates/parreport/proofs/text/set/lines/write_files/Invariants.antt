use Rattle.std.proofs.Common.{drop}
use Rattle.std.specs.List.{flat_map}
use Rattle.parreport.specs.Lines.{file_line}
use Rattle.parreport.proofs.WriterLaws.{WritesBut}
use Rattle.parreport.proofs.text.set.lines.write_files.Given as goal

-- all is written except the lines that are left
abbrev pub invariant-loop-file : goal.invariant-loop-file
invariant-loop-file g l =
    WritesBut g.W.Sink.state l.fn.writer l.writer (flat_map (file_line l.size) l.files) (flat_map (file_line l.size) (drop l.file-index l.files))
