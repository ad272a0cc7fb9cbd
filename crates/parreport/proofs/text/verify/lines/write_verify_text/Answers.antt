use Rattle.std.proofs.Common.{◌≡◌, ◌∙◌, ◌≤◌, ℕ, suc, List, [], ◌++◌, Result, Ok, Err, IfOk, ap, refl, sym, arith}
use Rattle.std.proofs.lemmas.Bool.{lt-leb, ne_eqb}
use Rattle.std.proofs.lemmas.Result.{err_from_is_err_and}
use Rattle.parset.specs.RecoverySet.{SetView}
use Rattle.parreport.specs.Findings.{need_of}
use Rattle.parreport.specs.Names.{names_of}
use Rattle.parreport.specs.declared.faults.RunFault.{RunFault}
use Rattle.parreport.specs.declared.states.findings.Findings.{Findings}
use Rattle.parreport.specs.declared.states.state.State.{State}
use Rattle.parreport.specs.declared.status.Status.{Status}
use Rattle.parreport.specs.VerifyText.{states_text, status_from, status_of, result_text, findings_text}
use Rattle.parreport.proofs.WriterLaws.{writes_none, writes_part, stops_part, writes_last, writes_all}
use Rattle.parreport.proofs.text.verify.lines.write_verify_text.Goals as goal

-- the last two lines of these findings
abbrev last_two : SetView → Findings → List ℕ
last_two set findings = result_text (need_of findings.found) set.have (status_of set findings)

-- the text by how quiet it is
module _ (quiet : ℕ) (set : SetView) (names : List (List ℕ)) (findings : Findings) where
  all_lines : quiet ≡ 0 → states_text set names findings ++ last_two set findings ≡ findings_text quiet set names findings
  unfolding findings_text
  all_lines is = rw is refl

  last_lines : quiet ≡ 1 → last_two set findings ≡ findings_text quiet set names findings
  unfolding findings_text
  last_lines is = rw is refl

  no_lines : 2 ≤ quiet → [] ≡ findings_text quiet set names findings
  unfolding findings_text
  no_lines few = rw (ne_eqb quiet 0 (omega arith), lt-leb (suc quiet) 2 (omega (arith, few))) refl

-- what is counted once is what the findings come to
module _ (set : SetView) (findings : Findings) (states : List State) (need have : ℕ) (status : Status) (states_are : states ≡ findings.states)
    (needs : need ≡ need_of findings.found) (has : have ≡ set.have) (from : status ≡ status_from states need have) where
  status_found : status ≡ status_of set findings
  status_found =
      from ∙ (ap (λ xs. status_from xs need have) states_are
      ∙ (ap (λ n. status_from findings.states n have) needs ∙ ap (status_from findings.states (need_of findings.found)) has))

  results_found : result_text need have status ≡ last_two set findings
  results_found =
      ap (λ n. result_text n have status) needs
      ∙ (ap (λ n. result_text (need_of findings.found) n status) has ∙ ap (result_text (need_of findings.found) set.have) status_found)

  status_told : (result : Result Status RunFault) → IfOk result (λ told. told ≡ status) → IfOk result (λ told. told ≡ status_of set findings)
  status_told (Ok told) is = is ∙ status_found
  status_told (Err why) is = tt

pub returns-in_err-write_states-in-0-clause-text : goal.returns-in_err-write_states-in-0-clause-text
returns-in_err-write_states-in-0-clause-text g c =
    let set = c.args.set.now in let names = names_of c.args.files.now in let findings = c.args.findings.now in
    let old = c.args.writer.now in let state = g.W.Sink.state in
    let failed = err_from_is_err_and c.from_residual.result c.from_residual.ensures.1 in
    rw (failed.1, failed.2, sym (all_lines c.args.quiet set names findings c.in-0.is))
    (stops_part state old old c.write_states.new.writer _ (states_text set names findings) (last_two set findings) (writes_none state old _)
    _ c.in_err-write_states-in-0.ensures)

pub returns-in_ok-write_states-in-0-clause-text : goal.returns-in_ok-write_states-in-0-clause-text
returns-in_ok-write_states-in-0-clause-text g c =
    let set = c.args.set.now in let names = names_of c.args.files.now in let findings = c.args.findings.now in
    let old = c.args.writer.now in let state = g.W.Sink.state in
    let text = states_text set names findings ++ last_two set findings in
    let before = writes_part state old old c.write_states.new.writer text (states_text set names findings) (last_two set findings)
    (writes_none state old text) _ c.in_ok-write_states-in-0.ensures in
    let same = results_found set findings c.as_slice.result.now c.need-need.result c.have-have.result c.status_from-status.result
    c.as_slice.ensures c.need-need.ensures c.have-have.ensures.field c.status_from-status.ensures in
    rw (sym (all_lines c.args.quiet set names findings c.in-0.is))
    (writes_last state old c.write_states.new.writer c.write_results.new.writer text (last_two set findings) c.write_results.result before
    (rw same at c.write_results.ensures.text))

pub returns-in_ok-write_states-in-0-clause-status : goal.returns-in_ok-write_states-in-0-clause-status
returns-in_ok-write_states-in-0-clause-status g c =
    status_told c.args.set.now c.args.findings.now c.as_slice.result.now c.need-need.result c.have-have.result c.status_from-status.result
    c.as_slice.ensures c.need-need.ensures c.have-have.ensures.field c.status_from-status.ensures c.write_results.result c.write_results.ensures.status

pub returns-in-1-clause-text : goal.returns-in-1-clause-text
returns-in-1-clause-text g c =
    let set = c.args.set.now in let findings = c.args.findings.now in
    let same = results_found set findings c.as_slice.result.now c.need-need.result c.have-have.result c.status_from-status.result
    c.as_slice.ensures c.need-need.ensures c.have-have.ensures.field c.status_from-status.ensures in
    rw (sym (last_lines c.args.quiet set (names_of c.args.files.now) findings c.in-1.is)) (rw same at c.write_results-in-1.ensures.text)

pub returns-in-1-clause-status : goal.returns-in-1-clause-status
returns-in-1-clause-status g c =
    status_told c.args.set.now c.args.findings.now c.as_slice.result.now c.need-need.result c.have-have.result c.status_from-status.result
    c.as_slice.ensures c.need-need.ensures c.have-have.ensures.field c.status_from-status.ensures c.write_results-in-1.result
    c.write_results-in-1.ensures.status

pub returns-in_default-clause-text : goal.returns-in_default-clause-text
returns-in_default-clause-text g c =
    let old = c.args.writer.now in
    let few : 2 ≤ c.args.quiet = omega arith in
    rw (sym (no_lines c.args.quiet c.args.set.now (names_of c.args.files.now) c.args.findings.now few))
    (writes_all g.W.Sink.state old old [] c.status_from-status.result (writes_none g.W.Sink.state old []))

pub returns-in_default-clause-status : goal.returns-in_default-clause-status
returns-in_default-clause-status g c =
    status_found c.args.set.now c.args.findings.now c.as_slice.result.now c.need-need.result c.have-have.result c.status_from-status.result
    c.as_slice.ensures c.need-need.ensures c.have-have.ensures.field c.status_from-status.ensures
