use Rattle.std.proofs.lemmas.Grind.{common_steps}
use Rattle.std.proofs.Common.{sym, get_or, [], arith, Bool}
use Rattle.std.proofs.lemmas.List.Folds.{list_any_at}
use Rattle.parset.specs.declared.recovery_set.SetSlice.{SetSlice}
use Rattle.parwindow.specs.declared.slices.entries.Entry.{Entry}
use Rattle.parwindow.specs.Entries.{is_between, is_open}
use Rattle.parwindow.proofs.slice_laws.HasOpenLaws.{open_between, shut_above, shut_below, shut_found}
use Rattle.parwindow.proofs.ListLaws.{none_more}
use Rattle.parwindow.proofs.slice_laws.SearchLaws.{entry_of}
use Rattle.parwindow.proofs.slices.entries.has_open.Goals.{else-not-found-slice-via-then-not-found-slice+else-least-length, else-not-found-slice-via-then-not-found-slice+then-least-length+else-length-most, else-not-found-slice-via-else-not-found-slice}
use Rattle.parwindow.proofs.slices.entries.has_open.Goals as goal

pub returns-then-length-most : goal.returns-then-length-most
returns-then-length-most c =
    let d : Entry = entry_of 0 [] 0 in
    let i = c.loop-entry.entry-index in
    let e : Entry = get_or c.args.entries.now i d in
    let within = c.loop-entry-test.true in
    let test : SetSlice → Bool = is_between c.args.least c.args.most in
    sym (list_any_at (is_open c.args.slices.now c.args.found.now test) c.args.entries.now i d within
    (open_between c.args.slices.now c.args.found.now e (c.requires.there i d within)
    c.requires.each c.args.least c.args.most _ _ c.if-not-found-slice.true c.if-least-length.true
    c.if-length-most.true))

pub loop-entry-preserved : goal.loop-entry-preserved
loop-entry-preserved c =
    let d : Entry = entry_of 0 [] 0 in
    let i = c.loop-entry.entry-index in
    let e : Entry = get_or c.args.entries.now i d in
    let within = c.loop-entry-test.true in
    let slices = c.args.slices.now in
    let found = c.args.found.now in
    let there = c.requires.there i d within in
    let test : SetSlice → Bool = is_between c.args.least c.args.most in
    none_more (is_open slices found test) c.args.entries.now i d within c.loop-entry.invariant
    (elim c.else-not-found-slice.branch [
      | else-not-found-slice-via-then-not-found-slice+else-least-length w ↦
          shut_below slices found e there c.requires.each c.args.least c.args.most _
          w.if-least-length.false
      | else-not-found-slice-via-then-not-found-slice+then-least-length+else-length-most w ↦
          shut_above slices found e there c.requires.each c.args.least c.args.most _
          w.if-length-most.false
      | else-not-found-slice-via-else-not-found-slice w ↦
          shut_found slices found e there c.requires.each test _ w.if-not-found-slice.false
    ])

pub returns : goal.returns
returns c = grind (arith, common_steps)
