use Rattle.std.proofs.lemmas.Grind.{common_steps}
use Rattle.std.proofs.Common.{◌≡◌, ◌∙◌, ℕ, Bool, List, Result, Ok, Err, IfErr, true, false, ap, refl, length, subst, sym, arith}
use Rattle.std.proofs.lemmas.Result.{err_from_is_err_and}
use Rattle.parset.specs.RecoverySet.{SetView}
use Rattle.parreport.proofs.StateLaws.{contents_sized, map-name}
use Rattle.parreport.specs.Names.{names_of}
use Rattle.parreport.specs.Findings.{findings_of}
use Rattle.parreport.specs.States.{named_files}
use Rattle.parreport.specs.declared.states.findings.Findings.{Findings}
use Rattle.parplan.specs.declared.command.Plan.{Plan}
use Rattle.parreport.specs.Outcomes.{Answers, may_follow_text, written}
use Rattle.parreport.specs.declared.faults.RunFault.{RunFault}
use Rattle.parreport.specs.declared.faults.RunFault.TheVariants as fault
use Rattle.parplan.specs.declared.command.Command.TheVariants as command
use Rattle.parreport.specs.Report.{Report, verify_report}
use Rattle.parreport.specs.VerifyText.{status_of, findings_text}
use Rattle.parreport.specs.declared.status.Status.{Status}
use Rattle.parfind.specs.Sought.{HasFewTails, sought_of}
use Rattle.parfind.specs.declared.tracks.mode.Mode.{Mode}
use Rattle.parreport.specs.SetSearch.{mode_of, set_sought_of}
use Rattle.parreport.proofs.LeaveLaws.{FaultTells-packet, FaultTells-scanned, FaultTells-sink}
use Rattle.parreport.proofs.RunLaws.{answers_before_text, few_no_cause, few_of_set, many_are_many, report_of_few, test_of_set}
use Rattle.parreport.proofs.text.verify.write_verify.Goals as goal

abbrev report : List ℕ → Status → Report
report text status = record { text = text; answer = Ok status }

-- the report that is made from the findings is the report over the files
report_is : (quiet : ℕ) (mode : Mode) (plan : Plan) (set : SetView) (findings : Findings) (contents : List (List ℕ)) → length contents ≡ length plan.scanned
    → HasFewTails (set_sought_of set mode) → findings ≡ findings_of set mode (named_files plan.scanned contents)
    → report (findings_text quiet set (names_of plan.scanned) findings) (status_of set findings) ≡ verify_report plan quiet mode contents set
report_is quiet mode plan set findings contents sized few is =
    ap (λ (f : Findings). report (findings_text quiet set (names_of plan.scanned) f) (status_of set f)) is
    ∙ (ap (λ (names : List (List ℕ)). report (findings_text quiet set names (findings_of set mode (named_files plan.scanned contents)))
    (status_of set (findings_of set mode (named_files plan.scanned contents)))) (sym (map-name plan.scanned contents sized))
    ∙ sym (report_of_few (set_sought_of set mode) _ few))

-- if something is true of an error in either mode, it is true in this one
holds_for : (Holds : Bool → RunFault → Type 0) (result : Result Status RunFault) (tails : Bool) → IfErr result (λ fault. (either : Bool) → Holds either fault)
    → IfErr result (Holds tails)
holds_for Holds (Ok status) tails h = tt
holds_for Holds (Err fault) tails h = h tails

pub returns-then-has_too_many_tails-clause-text : goal.returns-then-has_too_many_tails-clause-text
returns-then-has_too_many_tails-clause-text g c = λ files reads.
    let mode = mode_of c.args.tails in
    let many = test_of_set c.args.set.now mode c.mode_of-mode.result c.in_ok-index.index c.in_ok-index.ensures c.mode_of-mode.ensures true
    (many_are_many (sought_of c.in_ok-index.index c.mode_of-mode.result) (c.has_too_many_tails.ensures.many c.if-has_too_many_tails.true)) in
    (rw many (refl {a = Err fault.TooManyTails}), refl)

pub findings_on-requires-clause-few : goal.findings_on-requires-clause-few
findings_on-requires-clause-few g c =
    few_of_set c.args.set.now c.mode_of-mode.result c.mode_of-mode.result c.in_ok-index.index c.in_ok-index.ensures refl
    (c.has_too_many_tails.ensures.few c.if-has_too_many_tails.false)

pub returns-in_err-findings-clause-text : goal.returns-in_err-findings-clause-text
returns-in_err-findings-clause-text g c = λ files reads.
    let failed = err_from_is_err_and c.from_residual-in_err-findings.result c.from_residual-in_err-findings.ensures.1 in
    rw (failed.1, failed.2) (answers_before_text _ c.in_err-findings.field-0.0 (g.Q.Shelf.state c.args.scanned.now) (g.Q.Shelf.state c.findings_on.new.shelf) _
    c.in_err-findings.ensures.fault)

pub returns-clause-text : goal.returns-clause-text
returns-clause-text g c = λ files reads.
    let set = c.args.set.now in let plan = c.args.plan.now in let mode = mode_of c.args.tails in
    let start = g.W.Sink.state c.args.out.now in let new = g.W.Sink.state c.write_findings.new.out in
    let sized = contents_sized (g.Q.Shelf.state c.args.scanned.now) plan.scanned files c.requires (c.in_ok-findings.ensures.ok.older files reads) in
    let few = few_of_set set mode c.mode_of-mode.result c.in_ok-index.index c.in_ok-index.ensures c.mode_of-mode.ensures
    (c.has_too_many_tails.ensures.few c.if-has_too_many_tails.false) in
    let findings : c.in_ok-findings.findings ≡ findings_of set mode (named_files plan.scanned files)
    = rw (c.as_slice-files.ensures, c.mode_of-mode.ensures) at (c.in_ok-findings.ensures.findings files reads) in
    let after = rw c.as_slice-files.ensures at c.write_findings.ensures.text in
    subst (λ (whole : Report). Answers whole c.write_findings.result start new)
    (report_is c.args.quiet mode plan set c.in_ok-findings.findings files sized few findings) after

pub returns-in_err-findings-clause-no_packet : goal.returns-in_err-findings-clause-no_packet
returns-in_err-findings-clause-no_packet g c =
    let failed = err_from_is_err_and c.from_residual-in_err-findings.result c.from_residual-in_err-findings.ensures.1 in
    rw (failed.1, failed.2) (FaultTells-packet (g.Q.Shelf.state c.args.scanned.now) (g.Q.Shelf.state c.findings_on.new.shelf)
    c.in_err-findings.field-0.0 c.in_err-findings.ensures.fault)

pub returns-in_err-findings-clause-nothing_written : goal.returns-in_err-findings-clause-nothing_written
returns-in_err-findings-clause-nothing_written g c = grind (arith, common_steps)

pub returns-in_err-findings-clause-scanned : goal.returns-in_err-findings-clause-scanned
returns-in_err-findings-clause-scanned g c =
    let failed = err_from_is_err_and c.from_residual-in_err-findings.result c.from_residual-in_err-findings.ensures.1 in
    rw (failed.1, failed.2) (FaultTells-scanned (g.Q.Shelf.state c.args.scanned.now) (g.Q.Shelf.state c.findings_on.new.shelf)
    c.in_err-findings.field-0.0 c.in_err-findings.ensures.fault)

pub returns-in_err-findings-clause-sink : goal.returns-in_err-findings-clause-sink
returns-in_err-findings-clause-sink g c =
    let failed = err_from_is_err_and c.from_residual-in_err-findings.result c.from_residual-in_err-findings.ensures.1 in
    rw (failed.1, failed.2) (FaultTells-sink (g.Q.Shelf.state c.args.scanned.now) (g.Q.Shelf.state c.findings_on.new.shelf)
    c.in_err-findings.field-0.0 (g.W.Sink.state c.args.out.now) c.in_err-findings.ensures.fault)

pub returns-clause-no_packet : goal.returns-clause-no_packet
returns-clause-no_packet g c = grind (arith, common_steps)

pub returns-clause-nothing_written : goal.returns-clause-nothing_written
returns-clause-nothing_written g c =
    let old = g.W.Sink.state c.args.out.now in let new = g.W.Sink.state c.write_findings.new.out in
    holds_for (λ tails fault. may_follow_text (command.Verify c.args.quiet tails) (written old new) fault ≡ false → new ≡ old)
    c.write_findings.result c.args.tails c.write_findings.ensures.nothing_written

pub returns-clause-scanned : goal.returns-clause-scanned
returns-clause-scanned g c = grind (arith, common_steps)

pub returns-clause-sink : goal.returns-clause-sink
returns-clause-sink g c = grind (arith, common_steps)

pub returns-in_err-findings-clause-handed : goal.returns-in_err-findings-clause-handed
returns-in_err-findings-clause-handed g c = rw c.mode_of-mode.ensures at c.findings_on.ensures.handed

pub returns-clause-handed : goal.returns-clause-handed
returns-clause-handed g c = rw c.mode_of-mode.ensures at c.findings_on.ensures.handed

pub returns-in_err-findings-clause-unsearched : goal.returns-in_err-findings-clause-unsearched
returns-in_err-findings-clause-unsearched g c = rw c.as_slice-files.ensures at c.findings_on.ensures.unsearched

pub returns-clause-unsearched : goal.returns-clause-unsearched
returns-clause-unsearched g c = rw c.as_slice-files.ensures at c.findings_on.ensures.unsearched

pub returns-in_err-findings-clause-cause : goal.returns-in_err-findings-clause-cause
returns-in_err-findings-clause-cause g c = λ scanned sized cause.
    let mode = mode_of c.args.tails in
    let few = few_of_set c.args.set.now mode c.mode_of-mode.result c.in_ok-index.index c.in_ok-index.ensures c.mode_of-mode.ensures
    (c.has_too_many_tails.ensures.few c.if-has_too_many_tails.false) in
    absurd (few_no_cause (set_sought_of c.args.set.now mode) _ _ few cause)

pub returns-clause-cause : goal.returns-clause-cause
returns-clause-cause g c = λ scanned sized cause.
    let mode = mode_of c.args.tails in
    let few = few_of_set c.args.set.now mode c.mode_of-mode.result c.in_ok-index.index c.in_ok-index.ensures c.mode_of-mode.ensures
    (c.has_too_many_tails.ensures.few c.if-has_too_many_tails.false) in
    absurd (few_no_cause (set_sought_of c.args.set.now mode) _ _ few cause)
