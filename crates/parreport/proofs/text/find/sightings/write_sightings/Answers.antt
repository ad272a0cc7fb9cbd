use Rattle.std.proofs.Common.{arith, sym, subst}
use Rattle.std.proofs.lemmas.Grind.{common_steps}
use Rattle.std.proofs.lemmas.Result.{err_from_is_err_and}
use Rattle.parfind.specs.Finders.{FinderState}
use Rattle.parreport.specs.Faults.{listing_of}
use Rattle.parreport.specs.FindText.{Search, find_search_of, find_text}
use Rattle.parreport.specs.SetSearch.{mode_of, set_sought_of}
use Rattle.parreport.specs.Outcomes.{Answers}
use Rattle.parreport.specs.Report.{Report, listed}
use Rattle.parreport.proofs.RunLaws.{few_of_set, report_of_few, unstarted_scanned, unstarted_text}
use Rattle.parreport.proofs.text.find.sightings.write_sightings.Goals as goal

pub returns-in_err-index-clause-text : goal.returns-in_err-index-clause-text
returns-in_err-index-clause-text g c = grind (arith, common_steps) steps 1000000

pub returns-in_err-index-clause-lines : goal.returns-in_err-index-clause-lines
returns-in_err-index-clause-lines g c = grind (arith, common_steps) steps 100000

pub returns-in_err-index-clause-reads : goal.returns-in_err-index-clause-reads
returns-in_err-index-clause-reads g c = grind (arith, common_steps) steps 100000

pub returns-in_err-index-clause-sink : goal.returns-in_err-index-clause-sink
returns-in_err-index-clause-sink g c = grind (arith, common_steps) steps 100000

pub returns-in_err-finder-clause-text : goal.returns-in_err-finder-clause-text
returns-in_err-finder-clause-text g c = λ contents reads.
    let failed = err_from_is_err_and c.from_residual-in_err-finder.result c.from_residual-in_err-finder.ensures.1 in
    rw (failed.1, failed.2) (unstarted_text c.args.set.now (mode_of c.args.query.tails) c.mode_of.result c.in_ok-index.index c.in_ok-index.ensures
    c.mode_of.ensures FinderState _ _ _ c.in_err-finder.ensures.tails)

pub returns-in_err-finder-clause-reads : goal.returns-in_err-finder-clause-reads
returns-in_err-finder-clause-reads g c =
    let failed = err_from_is_err_and c.from_residual-in_err-finder.result c.from_residual-in_err-finder.ensures.1 in
    rw (failed.1, failed.2) (unstarted_scanned _ (g.Q.Shelf.state c.args.shelf.now))

pub write_from-requires-clause-limit : goal.write_from-requires-clause-limit
write_from-requires-clause-limit g c = grind (arith, common_steps) steps 100000

pub write_from-requires-clause-index : goal.write_from-requires-clause-index
write_from-requires-clause-index g c = grind (arith, common_steps) steps 400000

pub write_from-requires-clause-belongs : goal.write_from-requires-clause-belongs
write_from-requires-clause-belongs g c = grind (arith, common_steps) steps 100000

pub returns-clause-text : goal.returns-clause-text
returns-clause-text g c = λ contents reads.
    let s : Search = find_search_of c.args.files.now contents c.args.set.now c.args.at c.args.query in
    let few = few_of_set c.args.set.now s.mode c.mode_of.result c.in_ok-index.index c.in_ok-index.ensures c.mode_of.ensures c.in_ok-finder.ensures.tails in
    subst (λ (report : Report). Answers report (listing_of c.write_from.result) (g.W.Sink.state c.args.out.now) (g.W.Sink.state c.write_from.new.out))
    (sym (report_of_few (set_sought_of s.set s.mode) (listed (find_text s)) few))
    (rw c.in_ok-finder.ensures.cursor at (c.write_from.ensures.text contents reads))

pub returns-clause-lines : goal.returns-clause-lines
returns-clause-lines g c = λ contents reads. rw c.in_ok-finder.ensures.cursor at (c.write_from.ensures.lines contents reads)

pub returns-clause-reads : goal.returns-clause-reads
returns-clause-reads g c = c.write_from.ensures.reads

pub returns-clause-sink : goal.returns-clause-sink
returns-clause-sink g c = c.write_from.ensures.sink

pub returns-clause-handed : goal.returns-clause-handed
returns-clause-handed g c = rw c.in_ok-finder.ensures.cursor at c.write_from.ensures.handed
