use Rattle.std.proofs.Common.{◌≡◌, ℕ, List, ◌++◌, refl, subst, ap, unwrap_or}
use Rattle.std.proofs.lemmas.Result.{err_from_is_err_and}
use Rattle.std.proofs.Math.Path.{fun_ext}
use Rattle.std.specs.BTreeMap.{get}
use Rattle.std.specs.List.{flat_map, zip}
use Rattle.parfield.specs.HashOrder.{id_cmp}
use Rattle.parfield.specs.declared.hash16.Hash16.{Hash16}
use Rattle.parset.specs.RecoverySet.{SetView}
use Rattle.parreport.specs.Findings.{found_count_of}
use Rattle.parreport.specs.Names.{names_of}
use Rattle.parreport.specs.Lines.{set_line}
use Rattle.parreport.specs.declared.states.findings.Findings.{Findings}
use Rattle.parreport.specs.VerifyText.{counted_line, states_text}
use Rattle.parreport.specs.Writers.{Writes}
use Rattle.parreport.proofs.WriterLaws.{stops_before, writes_none, writes_part, stops_part, writes_last}
use Rattle.parreport.proofs.text.verify.lines.write_states.Goals as goal

-- the lines with the counts that were taken are those of the text
states_are : (set : SetView) (names : List (List ℕ)) (findings : Findings) (count_of : Hash16 → ℕ)
    → ((id : Hash16) → count_of id ≡ found_count_of set.slices findings.found id)
    → set_line set ++ flat_map (counted_line set.size names count_of) (zip set.files findings.states) ≡ states_text set names findings
unfolding states_text
states_are set names findings count_of counted =
    ap (λ (f : Hash16 → ℕ). set_line set ++ flat_map (counted_line set.size names f) (zip set.files findings.states)) (fun_ext counted)

pub returns-in_err-counts : goal.returns-in_err-counts
returns-in_err-counts g c =
    let failed = err_from_is_err_and c.from_residual.result c.from_residual.ensures.1 in
    rw (failed.1, failed.2) (stops_before g.W.Sink.state c.args.writer.now _ _ refl refl)

pub returns-in_err-write_set_line : goal.returns-in_err-write_set_line
unfolding states_text
returns-in_err-write_set_line g c =
    let failed = err_from_is_err_and c.from_residual-in_err-write_set_line.result c.from_residual-in_err-write_set_line.ensures.1 in
    rw (failed.1, failed.2)
    (stops_part g.W.Sink.state c.args.writer.now c.args.writer.now _ _ _ _ (writes_none g.W.Sink.state c.args.writer.now _) _ c.in_err-write_set_line.ensures)

pub returns : goal.returns
returns g c =
    let set = c.args.set.now in let findings = c.args.findings.now in let names = names_of c.args.files.now in
    let count_of = λ (id : Hash16). unwrap_or (get id_cmp c.in_ok-counts.counts id) 0 in
    let files = flat_map (counted_line set.size names count_of) (zip set.files findings.states) in
    let old = c.args.writer.now in let state = g.W.Sink.state in
    let wrote = rw (c.size.ensures.field, c.files.ensures.field, c.as_slice-states.ensures) at c.write_files.ensures in
    let before = writes_part state old old c.write_set_line.new.writer (set_line set ++ files) (set_line set) files
    (writes_none state old _) _ c.in_ok-write_set_line.ensures in
    subst (λ (ys : List ℕ). Writes state old c.write_files.new.writer ys c.write_files.result)
    (states_are set names findings count_of (rw (c.slices.ensures.field, c.as_slice.ensures) at c.in_ok-counts.ensures))
    (writes_last state old c.write_set_line.new.writer c.write_files.new.writer (set_line set ++ files) files c.write_files.result before wrote)
