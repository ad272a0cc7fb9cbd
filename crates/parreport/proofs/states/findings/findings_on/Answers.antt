use Rattle.std.proofs.Common.{arith, rules, ◌≡◌, ◌∙◌, ◌&&◌, ap, map, subst, sym}
use Rattle.std.proofs.lemmas.Grind.{common_steps}
use Rattle.std.proofs.lemmas.Result.{err_from_is_err_and}
use Rattle.std.specs.List.{list_any}
use Rattle.std.specs.Str.{bytes_eq}
use Rattle.parset.specs.declared.recovery_set.SetFile.{SetFile}
use Rattle.parshelf.specs.Shelf.{ShelfState}
use Rattle.parreport.specs.States.{named_files, checked_of, is_intact, state_of}
use Rattle.parreport.specs.Contents.{ReadsCandidates}
use Rattle.parshelf.proofs.ReadLaws.{ReadsOnly_more}
use Rattle.parreport.proofs.CostLaws.{lengths_same, only_checked, checked_and_searched}
use Rattle.parreport.proofs.LeaveLaws.{FaultTells_more, FaultTells_older}
use Rattle.parreport.proofs.SumLaws.{unsearched}
use Rattle.parreport.proofs.StateLaws.{contents_sized, findings_made, states_read}
use Rattle.parreport.proofs.states.findings.findings_on.Goals as goal

pub returns-clause-findings : goal.returns-clause-findings
returns-clause-findings g c = λ contents reads.
    let set = c.args.set.now in let files = c.args.files.now in
    let old : ShelfState = g.Q.Shelf.state c.args.shelf.now in
    let state = state_of (named_files files contents) in
    let before = c.in_ok-found.ensures.ok.older contents reads in
    let sized = contents_sized old files contents c.requires.named (c.in_ok-contents.ensures.ok.older contents before) in
    let same = c.files-set_files.ensures.field in
    let states = states_read files contents c.deref.result.now c.files-set_files.result.now set.files c.in_ok-states.states.items sized
    c.in_ok-states.ensures
    (c.deref.ensures.value ∙ (c.in_ok-contents.ensures.contents contents before ∙ ap (λ own. map (checked_of own) contents) same)) same in
    let asked : c.as_slice.result.now ≡ map state c.files-set_files.result.now
    = c.as_slice.ensures.value ∙ (states ∙ ap (map state) (sym c.files-set_files.ensures.field)) in
    findings_made set c.args.mode files contents c.from_vec.result c.from_vec-2.result c.in_ok-whole.whole sized
    (c.from_vec.ensures ∙ states)
    (λ id. c.in_ok-whole.ensures state asked id
    ∙ ap (list_any (λ (file : SetFile). bytes_eq file.id.0 id.0 && is_intact (state file))) c.files-set_files.ensures.field)
    (search (c.from_vec-2.ensures, c.in_ok-found.ensures.found contents reads))

pub returns-clause-unsearched : goal.returns-clause-unsearched
returns-clause-unsearched g c = λ contents reads needs.
    let set = c.args.set.now in let files = c.args.files.now in
    let state = state_of (named_files files contents) in
    let old : ShelfState = g.Q.Shelf.state c.args.shelf.now in
    let now : ShelfState = g.Q.Shelf.state c.contents.new.shelf in
    let before = c.in_ok-found.ensures.ok.older contents reads in
    let sized = contents_sized old files contents c.requires.named (c.in_ok-contents.ensures.ok.older contents before) in
    let same = c.files-set_files.ensures.field in
    let states = states_read files contents c.deref.result.now c.files-set_files.result.now set.files c.in_ok-states.states.items sized
    c.in_ok-states.ensures
    (c.deref.ensures.value ∙ (c.in_ok-contents.ensures.contents contents before ∙ ap (λ own. map (checked_of own) contents) same)) same in
    let asked : c.as_slice.result.now ≡ map state c.files-set_files.result.now
    = c.as_slice.ensures.value ∙ (states ∙ ap (map state) (sym c.files-set_files.ensures.field)) in
    unsearched set (named_files files contents) c.in_ok-whole.whole old now (g.Q.Shelf.state c.found_slices.new.shelf)
    (subst (λ files. ReadsCandidates files old now) same c.in_ok-contents.ensures.bytes) c.found_slices.ensures.none
    (λ id. c.in_ok-whole.ensures state asked id
    ∙ ap (list_any (λ (file : SetFile). bytes_eq file.id.0 id.0 && is_intact (state file))) same) needs

pub returns-in_err-found-clause-unsearched : goal.returns-in_err-found-clause-unsearched
returns-in_err-found-clause-unsearched g c = λ contents reads needs.
    let set = c.args.set.now in let files = c.args.files.now in
    let state = state_of (named_files files contents) in
    let old : ShelfState = g.Q.Shelf.state c.args.shelf.now in
    let now : ShelfState = g.Q.Shelf.state c.contents.new.shelf in
    let before = FaultTells_older now (g.Q.Shelf.state c.found_slices.new.shelf) c.in_err-found.field-0.0 c.in_err-found.ensures.fault contents reads in
    let sized = contents_sized old files contents c.requires.named (c.in_ok-contents.ensures.ok.older contents before) in
    let same = c.files-set_files.ensures.field in
    let states = states_read files contents c.deref.result.now c.files-set_files.result.now set.files c.in_ok-states.states.items sized
    c.in_ok-states.ensures
    (c.deref.ensures.value ∙ (c.in_ok-contents.ensures.contents contents before ∙ ap (λ own. map (checked_of own) contents) same)) same in
    let asked : c.as_slice.result.now ≡ map state c.files-set_files.result.now
    = c.as_slice.ensures.value ∙ (states ∙ ap (map state) (sym c.files-set_files.ensures.field)) in
    unsearched set (named_files files contents) c.in_ok-whole.whole old now (g.Q.Shelf.state c.found_slices.new.shelf)
    (subst (λ files. ReadsCandidates files old now) same c.in_ok-contents.ensures.bytes) c.found_slices.ensures.none
    (λ id. c.in_ok-whole.ensures state asked id
    ∙ ap (list_any (λ (file : SetFile). bytes_eq file.id.0 id.0 && is_intact (state file))) same) needs

pub returns-in_err-contents-clause-findings : goal.returns-in_err-contents-clause-findings
returns-in_err-contents-clause-findings g c = grind (arith, common_steps) steps 100000

pub returns-in_err-contents-clause-states : goal.returns-in_err-contents-clause-states
returns-in_err-contents-clause-states g c = grind (arith, common_steps) steps 100000

pub returns-in_err-contents-clause-slices : goal.returns-in_err-contents-clause-slices
returns-in_err-contents-clause-slices g c = grind (arith, common_steps) steps 100000

pub returns-in_err-contents-clause-handed : goal.returns-in_err-contents-clause-handed
returns-in_err-contents-clause-handed g c =
    let old : ShelfState = g.Q.Shelf.state c.args.shelf.now in
    let now : ShelfState = g.Q.Shelf.state c.contents.new.shelf in
    only_checked c.args.mode c.args.set.now old now (subst (λ files. ReadsCandidates files old now) c.files-set_files.ensures.field c.contents.ensures.bytes)

pub returns-in_err-contents-clause-unsearched : goal.returns-in_err-contents-clause-unsearched
returns-in_err-contents-clause-unsearched g c = λ contents reads needs.
    let old : ShelfState = g.Q.Shelf.state c.args.shelf.now in
    let now : ShelfState = g.Q.Shelf.state c.contents.new.shelf in
    subst (λ files. ReadsCandidates files old now) c.files-set_files.ensures.field c.contents.ensures.bytes

pub returns-in_err-contents-clause-ok : goal.returns-in_err-contents-clause-ok
returns-in_err-contents-clause-ok g c = grind (arith, common_steps) steps 100000

pub returns-in_err-contents-clause-fault : goal.returns-in_err-contents-clause-fault
returns-in_err-contents-clause-fault g c = grind (arith, common_steps) steps 100000

pub returns-in_err-states-clause-findings : goal.returns-in_err-states-clause-findings
returns-in_err-states-clause-findings g c = grind (arith, common_steps) steps 400000

pub returns-in_err-states-clause-states : goal.returns-in_err-states-clause-states
returns-in_err-states-clause-states g c = grind (arith, common_steps) steps 100000

pub returns-in_err-states-clause-slices : goal.returns-in_err-states-clause-slices
returns-in_err-states-clause-slices g c = grind (arith, common_steps) steps 100000

pub returns-in_err-states-clause-handed : goal.returns-in_err-states-clause-handed
returns-in_err-states-clause-handed g c =
    let old : ShelfState = g.Q.Shelf.state c.args.shelf.now in
    let now : ShelfState = g.Q.Shelf.state c.contents.new.shelf in
    only_checked c.args.mode c.args.set.now old now (subst (λ files. ReadsCandidates files old now) c.files-set_files.ensures.field c.in_ok-contents.ensures.bytes)

pub returns-in_err-states-clause-unsearched : goal.returns-in_err-states-clause-unsearched
returns-in_err-states-clause-unsearched g c = λ contents reads needs.
    let old : ShelfState = g.Q.Shelf.state c.args.shelf.now in
    let now : ShelfState = g.Q.Shelf.state c.contents.new.shelf in
    subst (λ files. ReadsCandidates files old now) c.files-set_files.ensures.field c.in_ok-contents.ensures.bytes

pub returns-in_err-states-clause-ok : goal.returns-in_err-states-clause-ok
returns-in_err-states-clause-ok g c = grind (arith, common_steps) steps 400000

pub returns-in_err-states-clause-fault : goal.returns-in_err-states-clause-fault
returns-in_err-states-clause-fault g c = grind (arith, common_steps) steps 100000

pub intact_ids-requires : goal.intact_ids-requires
intact_ids-requires g c = grind (arith, common_steps) steps 400000

pub returns-in_err-whole-clause-findings : goal.returns-in_err-whole-clause-findings
returns-in_err-whole-clause-findings g c = grind (arith, common_steps) steps 400000

pub returns-in_err-whole-clause-states : goal.returns-in_err-whole-clause-states
returns-in_err-whole-clause-states g c = grind (arith, common_steps) steps 400000

pub returns-in_err-whole-clause-slices : goal.returns-in_err-whole-clause-slices
returns-in_err-whole-clause-slices g c = grind (arith, common_steps) steps 400000

pub returns-in_err-whole-clause-handed : goal.returns-in_err-whole-clause-handed
returns-in_err-whole-clause-handed g c =
    let old : ShelfState = g.Q.Shelf.state c.args.shelf.now in
    let now : ShelfState = g.Q.Shelf.state c.contents.new.shelf in
    only_checked c.args.mode c.args.set.now old now (subst (λ files. ReadsCandidates files old now) c.files-set_files.ensures.field c.in_ok-contents.ensures.bytes)

pub returns-in_err-whole-clause-unsearched : goal.returns-in_err-whole-clause-unsearched
returns-in_err-whole-clause-unsearched g c = λ contents reads needs.
    let old : ShelfState = g.Q.Shelf.state c.args.shelf.now in
    let now : ShelfState = g.Q.Shelf.state c.contents.new.shelf in
    subst (λ files. ReadsCandidates files old now) c.files-set_files.ensures.field c.in_ok-contents.ensures.bytes

pub returns-in_err-whole-clause-ok : goal.returns-in_err-whole-clause-ok
returns-in_err-whole-clause-ok g c = grind (arith, common_steps) steps 400000

pub returns-in_err-whole-clause-fault : goal.returns-in_err-whole-clause-fault
returns-in_err-whole-clause-fault g c = grind (arith, common_steps) steps 400000

pub returns-in_err-found-clause-findings : goal.returns-in_err-found-clause-findings
returns-in_err-found-clause-findings g c = grind (arith, common_steps) steps 400000

pub returns-in_err-found-clause-states : goal.returns-in_err-found-clause-states
returns-in_err-found-clause-states g c = grind (arith, common_steps) steps 400000

pub returns-in_err-found-clause-slices : goal.returns-in_err-found-clause-slices
returns-in_err-found-clause-slices g c = grind (arith, common_steps) steps 400000

pub returns-in_err-found-clause-ok : goal.returns-in_err-found-clause-ok
returns-in_err-found-clause-ok g c = grind (arith, common_steps) steps 400000

pub returns-in_err-found-clause-fault : goal.returns-in_err-found-clause-fault
returns-in_err-found-clause-fault g c =
    let failed = err_from_is_err_and c.from_residual-in_err-found.result c.from_residual-in_err-found.ensures.1 in
    rw (failed.1, failed.2) (FaultTells_more (g.Q.Shelf.state c.args.shelf.now) (g.Q.Shelf.state c.contents.new.shelf)
    (g.Q.Shelf.state c.found_slices.new.shelf) c.in_err-found.field-0.0 c.in_ok-contents.ensures.ok c.in_err-found.ensures.fault)

pub returns-clause-states : goal.returns-clause-states
returns-clause-states g c = grind (arith, common_steps) steps 400000

pub returns-clause-slices : goal.returns-clause-slices
returns-clause-slices g c = grind (arith, common_steps) steps 400000

pub returns-clause-ok : goal.returns-clause-ok
returns-clause-ok g c =
    ReadsOnly_more (g.Q.Shelf.state c.args.shelf.now) (g.Q.Shelf.state c.contents.new.shelf) (g.Q.Shelf.state c.found_slices.new.shelf)
    c.in_ok-contents.ensures.ok c.in_ok-found.ensures.ok

pub returns-clause-fault : goal.returns-clause-fault
returns-clause-fault g c = grind (arith, common_steps) steps 100000

pub returns-in_err-found-clause-handed : goal.returns-in_err-found-clause-handed
returns-in_err-found-clause-handed g c =
    let old : ShelfState = g.Q.Shelf.state c.args.shelf.now in
    let now : ShelfState = g.Q.Shelf.state c.contents.new.shelf in
    checked_and_searched c.args.mode c.args.set.now old now (g.Q.Shelf.state c.found_slices.new.shelf) (lengths_same old now c.in_ok-contents.ensures.ok)
    (subst (λ files. ReadsCandidates files old now) c.files-set_files.ensures.field c.in_ok-contents.ensures.bytes)
    (search rules)

pub returns-clause-handed : goal.returns-clause-handed
returns-clause-handed g c =
    let old : ShelfState = g.Q.Shelf.state c.args.shelf.now in
    let now : ShelfState = g.Q.Shelf.state c.contents.new.shelf in
    checked_and_searched c.args.mode c.args.set.now old now (g.Q.Shelf.state c.found_slices.new.shelf) (lengths_same old now c.in_ok-contents.ensures.ok)
    (subst (λ files. ReadsCandidates files old now) c.files-set_files.ensures.field c.in_ok-contents.ensures.bytes)
    (search rules)
