use Rattle.std.proofs.Common.{ℕ, List, ◌++◌, Ok}
use Rattle.std.proofs.lemmas.Result.{err_from_is_err_and}
use Rattle.std.specs.List.{flat_map}
use Rattle.parset.specs.RecoverySet.{SetView}
use Rattle.parshelf.specs.SinkState.{SinkState}
use Rattle.parreport.specs.Lines.{set_line, file_line}
use Rattle.parreport.specs.SetText.{set_text, counts_lines, set_aside_line}
use Rattle.parreport.specs.Writers.{Writes}
use Rattle.parreport.specs.declared.text.block_writer.BlockWriter.{BlockWriter}
use Rattle.parreport.proofs.WriterLaws.{WritesBut, writes_none, writes_part, stops_part, writes_last}
use Rattle.parreport.proofs.text.set.lines.write_set_text.Goals as goal

-- the parts of the text of `set`, which are written one after the other
module _ {W : Type 0} (state : W → SinkState) (names : List (List ℕ)) (set : SetView) (old first second third : BlockWriter W) where
  abbrev files : List ℕ
  files = flat_map (file_line set.size) set.files

  abbrev asides : List ℕ
  asides = flat_map (set_aside_line names) set.aside

  own_written : Writes {A = Unit {0}} state old first (set_line set) (Ok tt) → WritesBut state old first (set_text names set) (files ++ (counts_lines set ++ asides))
  unfolding set_text
  own_written = writes_part state old old first (set_text names set) (set_line set) (files ++ (counts_lines set ++ asides)) (writes_none state old (set_text names set)) tt

  files_written : Writes {A = Unit {0}} state old first (set_line set) (Ok tt) → Writes {A = Unit {0}} state first second files (Ok tt)
      → WritesBut state old second (set_text names set) (counts_lines set ++ asides)
  files_written own = writes_part state old first second (set_text names set) files (counts_lines set ++ asides) (own_written own) tt

  counts_written : Writes {A = Unit {0}} state old first (set_line set) (Ok tt) → Writes {A = Unit {0}} state first second files (Ok tt)
      → Writes {A = Unit {0}} state second third (counts_lines set) (Ok tt) → WritesBut state old third (set_text names set) asides
  counts_written own listed = writes_part state old second third (set_text names set) (counts_lines set) asides (files_written own listed) tt

pub returns-in_err-write_set_line : goal.returns-in_err-write_set_line
unfolding set_text
returns-in_err-write_set_line g c =
    let failed = err_from_is_err_and c.from_residual.result c.from_residual.ensures.1 in
    rw (failed.1, failed.2)
    (stops_part g.W.Sink.state c.args.writer.now c.args.writer.now _ _ _ _ (writes_none g.W.Sink.state c.args.writer.now _) _ c.in_err-write_set_line.ensures)

pub returns-in_err-write_files : goal.returns-in_err-write_files
returns-in_err-write_files g c =
    let set = c.args.set.now in let names = c.args.names.now in
    let first = c.write_set_line.new.writer in let second = c.write_files.new.writer in
    let stopped = rw (c.size.ensures.field, c.files.ensures.field) at c.in_err-write_files.ensures in
    let failed = err_from_is_err_and c.from_residual-in_err-write_files.result c.from_residual-in_err-write_files.ensures.1 in
    rw (failed.1, failed.2)
    (stops_part g.W.Sink.state c.args.writer.now first second (set_text names set) _ _
    (own_written g.W.Sink.state names set c.args.writer.now first second second c.in_ok-write_set_line.ensures) _ stopped)

pub returns-in_err-write_counts : goal.returns-in_err-write_counts
returns-in_err-write_counts g c =
    let set = c.args.set.now in let names = c.args.names.now in
    let second = c.write_files.new.writer in let third = c.write_counts.new.writer in
    let listed = rw (c.size.ensures.field, c.files.ensures.field) at c.in_ok-write_files.ensures in
    let failed = err_from_is_err_and c.from_residual-in_err-write_counts.result c.from_residual-in_err-write_counts.ensures.1 in
    rw (failed.1, failed.2)
    (stops_part g.W.Sink.state c.args.writer.now second third (set_text names set) (counts_lines set) _
    (files_written g.W.Sink.state names set c.args.writer.now c.write_set_line.new.writer second third c.in_ok-write_set_line.ensures listed) _
    c.in_err-write_counts.ensures)

pub returns : goal.returns
returns g c =
    let set = c.args.set.now in let names = c.args.names.now in
    let third = c.write_counts.new.writer in
    let listed = rw (c.size.ensures.field, c.files.ensures.field) at c.in_ok-write_files.ensures in
    let last = rw c.aside.ensures at c.write_asides.ensures in
    writes_last g.W.Sink.state c.args.writer.now third c.write_asides.new.writer (set_text names set) _ c.write_asides.result
    (counts_written g.W.Sink.state names set c.args.writer.now c.write_set_line.new.writer c.write_files.new.writer third c.in_ok-write_set_line.ensures
    listed c.in_ok-write_counts.ensures) last
