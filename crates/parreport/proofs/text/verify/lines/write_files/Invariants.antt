use Rattle.std.proofs.Common.{drop, unwrap_or}
use Rattle.std.specs.BTreeMap.{get}
use Rattle.std.specs.List.{flat_map, zip}
use Rattle.parfield.specs.HashOrder.{id_cmp}
use Rattle.parreport.specs.Names.{names_of}
use Rattle.parreport.specs.VerifyText.{counted_line}
use Rattle.parreport.proofs.WriterLaws.{WritesBut}
use Rattle.parreport.proofs.text.verify.lines.write_files.Given as goal

-- all is written except the lines that are left
abbrev pub invariant-loop-index : goal.invariant-loop-index
invariant-loop-index g l =
    WritesBut g.W.Sink.state l.fn.writer l.writer
    (flat_map (counted_line l.size (names_of l.names) (λ id. unwrap_or (get id_cmp l.counts id) 0)) (zip l.files l.states))
    (flat_map (counted_line l.size (names_of l.names) (λ id. unwrap_or (get id_cmp l.counts id) 0)) (zip (drop l.index l.files) (drop l.index l.states)))
