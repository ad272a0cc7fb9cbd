use Rattle.std.proofs.lemmas.Grind.{common_steps}
use Rattle.std.proofs.Common.{rules, ◌≢◌, ◌≡◌, ◌∙◌, Some, Ok, Err, refl, sym, arith}
use Rattle.std.proofs.lemmas.Result.{err_from_is_err_and}
use Rattle.parshelf.specs.Shelf.{ShelfState}
use Rattle.parshelf.proofs.ReadLaws.{ReadsOnly-refl, ReadsOnly_more, FaultsIn_more}
use Rattle.parfind.specs.declared.cursors.cursor.Cursor.{Cursor}
use Rattle.parfind.specs.Points.{search_at}
use Rattle.parfind.proofs.track_laws.LaterShelfLaws.{later_fault}
use Rattle.parfind.specs.declared.searches.finder.Step.TheVariants.{Hit, Done}
use Rattle.parreport.specs.FindText.{Search, find_search_of}
use Rattle.parreport.specs.SetSearch.{mode_of}
use Rattle.parshelf.specs.SinkState.{SinkState}
use Rattle.parfind.proofs.track_laws.FetchedLaws.{hands_none}
use Rattle.parreport.proofs.CostLaws.{lengths_same, reads_on, reads_room, reads_room_on}
use Rattle.parreport.proofs.FindLaws.{hands_none as hands_no_sighting, hands_front, hands_one, hands_refused, ends_text, ends_refused, stops_text, stops_refused, keeps_after_fault, gives_of_set}
use Rattle.parreport.proofs.LineLaws.{fault_text, last_text, line_reads, line_sink, line_keeps, line_fault}
use Rattle.parreport.proofs.RunLaws.{list_same}
use Rattle.parreport.proofs.text.find.sightings.write_from.Goals as goal

pub loop-left-preserved-in-Ok-Hit : goal.loop-left-preserved-in-Ok-Hit
loop-left-preserved-in-Ok-Hit g c =
    let old : ShelfState = g.Q.Shelf.state c.args.shelf.now in
    let mid : ShelfState = g.Q.Shelf.state c.loop-left.shelf in
    let next : ShelfState = g.Q.Shelf.state c.next.new.shelf in
    let so_far = c.loop-left.invariant in
    let line = rw c.in_ok-write_sighting-in-Ok-Hit.was at c.write_sighting.ensures in
    let some : c.loop-left.left ≢ Some 0 = search rules in
    record {
      belongs = c.in-Ok-Hit.ensures.belongs;
      mode = c.in-Ok-Hit.ensures.along.mode_is ∙ so_far.mode;
      reads = ReadsOnly_more old mid next so_far.reads c.in-Ok-Hit.ensures.along.shelf;
      ahead = reads_on old mid next c.args.finder.now.fetched c.loop-left.finder.fetched c.next.new.self.fetched
          (lengths_same old mid so_far.reads) so_far.ahead c.in-Ok-Hit.ensures.along.reads;
      failures = rw line so_far.failures;
      handed = λ contents reads.
          let gives = gives_of_set c.args.set.now (mode_of c.args.query.tails) c.loop-left.finder.mode c.args.index.now contents
          (search_at mid c.loop-left.finder.cursor) (search_at next c.next.new.self.cursor) (Ok (Hit c.in-Ok-Hit.sighting))
          c.requires.index so_far.mode (rw c.in-Ok-Hit.field-0-is at (c.in-Ok-Hit.ensures.answer contents reads)) in
          rw c.limit_left-left.ensures
          (hands_one (find_search_of c.args.files.now contents c.args.set.now c.args.finder.now.cursor c.args.query) c.loop-left.left c.loop-left.finder.cursor
          (g.W.Sink.state c.args.out.now) (g.W.Sink.state c.loop-left.out)
          (so_far.handed contents (c.in-Ok-Hit.ensures.along.shelf.older contents reads)) some c.in-Ok-Hit.sighting c.next.new.self.cursor gives.sees
          (g.W.Sink.state c.write_sighting.new.out) gives.moves.after line);
    }

pub returns-in_err-write_sighting-in-Ok-Hit-clause-text : goal.returns-in_err-write_sighting-in-Ok-Hit-clause-text
returns-in_err-write_sighting-in-Ok-Hit-clause-text g c = λ contents reads.
    let s : Search = find_search_of c.args.files.now contents c.args.set.now c.args.finder.now.cursor c.args.query in
    let mid : ShelfState = g.Q.Shelf.state c.loop-left.shelf in
    let next : ShelfState = g.Q.Shelf.state c.next.new.shelf in
    let so_far = c.loop-left.invariant in
    let handed = so_far.handed contents (c.in-Ok-Hit.ensures.along.shelf.older contents reads) in
    let before : SinkState = g.W.Sink.state c.args.out.now in
    let between : SinkState = g.W.Sink.state c.loop-left.out in
    let after : SinkState = g.W.Sink.state c.write_sighting.new.out in
    let some : c.loop-left.left ≢ Some 0 = search rules in
    let gives = gives_of_set c.args.set.now (mode_of c.args.query.tails) c.loop-left.finder.mode c.args.index.now contents
    (search_at mid c.loop-left.finder.cursor) (search_at next c.next.new.self.cursor) (Ok (Hit c.in-Ok-Hit.sighting))
    c.requires.index so_far.mode (rw c.in-Ok-Hit.field-0-is at (c.in-Ok-Hit.ensures.answer contents reads)) in
    let line = c.in_err-write_sighting-in-Ok-Hit.ensures in
    let failed = err_from_is_err_and c.from_residual.result c.from_residual.ensures.1 in
    rw (failed.1, failed.2)
    (fault_text _ _ c.in_err-write_sighting-in-Ok-Hit.field-0.0 before between after line
    (hands_front s c.loop-left.left c.loop-left.finder.cursor before between handed)
    (hands_refused s c.loop-left.left c.loop-left.finder.cursor before between handed
    some c.in-Ok-Hit.sighting c.next.new.self.cursor gives.sees after))

pub returns-in-Ok-Done-clause-text : goal.returns-in-Ok-Done-clause-text
returns-in-Ok-Done-clause-text g c = λ contents reads.
    let s : Search = find_search_of c.args.files.now contents c.args.set.now c.args.finder.now.cursor c.args.query in
    let mid : ShelfState = g.Q.Shelf.state c.loop-left.shelf in
    let next : ShelfState = g.Q.Shelf.state c.next.new.shelf in
    let now : Cursor = c.loop-left.finder.cursor in
    let so_far = c.loop-left.invariant in
    let handed = so_far.handed contents (c.in-Ok-Done.ensures.along.shelf.older contents reads) in
    let before : SinkState = g.W.Sink.state c.args.out.now in
    let between : SinkState = g.W.Sink.state c.loop-left.out in
    let new : SinkState = g.W.Sink.state c.write_end.new.out in
    let some : c.loop-left.left ≢ Some 0 = search rules in
    let gives = gives_of_set c.args.set.now (mode_of c.args.query.tails) c.loop-left.finder.mode c.args.index.now contents
    (search_at mid now) (search_at next c.next.new.self.cursor) (Ok Done)
    c.requires.index so_far.mode (rw c.in-Ok-Done.field-0-is at (c.in-Ok-Done.ensures.answer contents reads)) in
    last_text _ _ c.write_end.result before between new c.write_end.ensures
    (hands_front s c.loop-left.left now before between handed)
    (ends_text s c.loop-left.left now before between handed some gives.sees new)
    (ends_refused s c.loop-left.left now before between handed some gives.sees new)

pub returns-clause-text : goal.returns-clause-text
returns-clause-text g c = λ contents reads.
    let s : Search = find_search_of c.args.files.now contents c.args.set.now c.args.finder.now.cursor c.args.query in
    let now : Cursor = c.loop-left.finder.cursor in
    let before : SinkState = g.W.Sink.state c.args.out.now in
    let mid : SinkState = g.W.Sink.state c.loop-left.out in
    let new : SinkState = g.W.Sink.state c.write_cursor.new.out in
    let none : c.loop-left.left ≡ Some 0 = search (rules, c.loop-left-test.ensures) in
    let handed = rw none at (c.loop-left.invariant.handed contents reads) in
    let list = list_same c.list_mark-list.result s.names _ _ c.list_mark-list.ensures (sym reads.lengths) in
    let line = rw (c.id.ensures, c.cursor.ensures, list) at c.write_cursor.ensures in
    last_text _ _ c.write_cursor.result before mid new line
    (hands_front s (Some 0) now before mid handed)
    (stops_text s now before mid handed c.requires.limit new)
    (stops_refused s now before mid handed c.requires.limit new)

pub returns-in-Err-clause-lines : goal.returns-in-Err-clause-lines
returns-in-Err-clause-lines g c = λ contents reads.
    let s : Search = find_search_of c.args.files.now contents c.args.set.now c.args.finder.now.cursor c.args.query in
    let mid : ShelfState = g.Q.Shelf.state c.loop-left.shelf in
    let next : ShelfState = g.Q.Shelf.state c.next.new.shelf in
    let fault = c.in-Err.fault in
    let later = later_fault mid next c.next.new.self.cursor.file fault c.in-Err.ensures.along.shelf in
    let handed = c.loop-left.invariant.handed contents (later.older contents reads) in
    let some : c.loop-left.left ≢ Some 0 = search rules in
    let gives = gives_of_set c.args.set.now (mode_of c.args.query.tails) c.loop-left.finder.mode c.args.index.now contents
    (search_at mid c.loop-left.finder.cursor) (search_at next c.next.new.self.cursor) (Err fault)
    c.requires.index c.loop-left.invariant.mode (c.in-Err.ensures.answer contents reads) in
    rw c.cursor-file.ensures
    (keeps_after_fault s mid next c.loop-left.left c.loop-left.finder.cursor c.next.new.self.cursor
    (g.W.Sink.state c.args.out.now) (g.W.Sink.state c.loop-left.out) fault handed some gives)

pub returns-in-Err-clause-text : goal.returns-in-Err-clause-text
returns-in-Err-clause-text g c = λ contents reads.
    let later = later_fault (g.Q.Shelf.state c.loop-left.shelf) (g.Q.Shelf.state c.next.new.shelf) c.next.new.self.cursor.file c.in-Err.fault
    c.in-Err.ensures.along.shelf in
    hands_front _ c.loop-left.left c.loop-left.finder.cursor _ _ (c.loop-left.invariant.handed contents (later.older contents reads))

pub returns-in_err-write_sighting-in-Ok-Hit-clause-lines : goal.returns-in_err-write_sighting-in-Ok-Hit-clause-lines
returns-in_err-write_sighting-in-Ok-Hit-clause-lines g c = grind (arith, common_steps) steps 1500000

pub loop-left-smaller-in-Ok-Hit : goal.loop-left-smaller-in-Ok-Hit
loop-left-smaller-in-Ok-Hit g c = grind (arith, common_steps) steps 100000

pub loop-left-smaller : goal.loop-left-smaller
loop-left-smaller g c = grind (arith, common_steps) steps 100000

pub loop-left-preserved : goal.loop-left-preserved
loop-left-preserved g c = grind (arith, common_steps) steps 100000

pub returns-in-Err-clause-sink : goal.returns-in-Err-clause-sink
returns-in-Err-clause-sink g c = grind (arith, common_steps) steps 100000

pub returns-clause-lines : goal.returns-clause-lines
returns-clause-lines g c = grind (arith, common_steps) steps 400000

pub returns-clause-reads : goal.returns-clause-reads
returns-clause-reads g c =
    line_reads _ c.write_cursor.result (g.Q.Shelf.state c.args.shelf.now) (g.Q.Shelf.state c.loop-left.shelf)
    (g.W.Sink.state c.loop-left.out) (g.W.Sink.state c.write_cursor.new.out) c.write_cursor.ensures c.loop-left.invariant.reads

pub returns-clause-sink : goal.returns-clause-sink
returns-clause-sink g c =
    line_sink _ c.write_cursor.result (g.W.Sink.state c.args.out.now) (g.W.Sink.state c.loop-left.out) (g.W.Sink.state c.write_cursor.new.out)
    c.write_cursor.ensures c.loop-left.invariant.failures

pub returns-in-Ok-Done-clause-reads : goal.returns-in-Ok-Done-clause-reads
returns-in-Ok-Done-clause-reads g c =
    let old : ShelfState = g.Q.Shelf.state c.args.shelf.now in
    let next : ShelfState = g.Q.Shelf.state c.next.new.shelf in
    line_reads _ c.write_end.result old next (g.W.Sink.state c.loop-left.out) (g.W.Sink.state c.write_end.new.out) c.write_end.ensures
    (ReadsOnly_more old (g.Q.Shelf.state c.loop-left.shelf) next c.loop-left.invariant.reads c.in-Ok-Done.ensures.along.shelf)

pub returns-in-Ok-Done-clause-sink : goal.returns-in-Ok-Done-clause-sink
returns-in-Ok-Done-clause-sink g c =
    line_sink _ c.write_end.result (g.W.Sink.state c.args.out.now) (g.W.Sink.state c.loop-left.out) (g.W.Sink.state c.write_end.new.out)
    c.write_end.ensures c.loop-left.invariant.failures

pub returns-in-Ok-Done-clause-lines : goal.returns-in-Ok-Done-clause-lines
returns-in-Ok-Done-clause-lines g c = λ contents reads. line_keeps _ _ c.write_end.result _ _ c.write_end.ensures

pub returns-in_err-write_sighting-in-Ok-Hit-clause-reads : goal.returns-in_err-write_sighting-in-Ok-Hit-clause-reads
returns-in_err-write_sighting-in-Ok-Hit-clause-reads g c =
    let old : ShelfState = g.Q.Shelf.state c.args.shelf.now in
    let next : ShelfState = g.Q.Shelf.state c.next.new.shelf in
    let failed = err_from_is_err_and c.from_residual.result c.from_residual.ensures.1 in
    rw (failed.1, failed.2)
    (line_reads _ (Err c.in_err-write_sighting-in-Ok-Hit.field-0.0) old next (g.W.Sink.state c.loop-left.out) (g.W.Sink.state c.write_sighting.new.out)
    c.in_err-write_sighting-in-Ok-Hit.ensures
    (ReadsOnly_more old (g.Q.Shelf.state c.loop-left.shelf) next c.loop-left.invariant.reads c.in-Ok-Hit.ensures.along.shelf))

pub returns-in_err-write_sighting-in-Ok-Hit-clause-sink : goal.returns-in_err-write_sighting-in-Ok-Hit-clause-sink
returns-in_err-write_sighting-in-Ok-Hit-clause-sink g c =
    let failed = err_from_is_err_and c.from_residual.result c.from_residual.ensures.1 in
    rw (failed.1, failed.2)
    (line_sink _ (Err c.in_err-write_sighting-in-Ok-Hit.field-0.0) (g.W.Sink.state c.args.out.now) (g.W.Sink.state c.loop-left.out)
    (g.W.Sink.state c.write_sighting.new.out) c.in_err-write_sighting-in-Ok-Hit.ensures c.loop-left.invariant.failures)

pub limit_left-left-requires : goal.limit_left-left-requires
limit_left-left-requires g c = grind (arith, common_steps) steps 400000

pub returns-in-Err-clause-reads : goal.returns-in-Err-clause-reads
returns-in-Err-clause-reads g c =
    let mid : ShelfState = g.Q.Shelf.state c.loop-left.shelf in
    rw c.cursor-file.ensures
    (FaultsIn_more (g.Q.Shelf.state c.args.shelf.now) mid (g.Q.Shelf.state c.next.new.shelf) c.next.new.self.cursor.file c.in-Err.fault
    c.loop-left.invariant.reads c.in-Err.ensures.along.shelf)

pub loop-left-init : goal.loop-left-init
loop-left-init g c = record {
  belongs = c.requires.belongs;
  mode = c.requires.mode;
  reads = ReadsOnly-refl (g.Q.Shelf.state c.args.shelf.now);
  ahead = hands_none (g.Q.Shelf.state c.args.shelf.now).lengths (g.Q.Shelf.state c.args.shelf.now).handed c.args.finder.now.fetched;
  failures = refl;
  handed = λ contents reads.
      hands_no_sighting (find_search_of c.args.files.now contents c.args.set.now c.args.finder.now.cursor c.args.query)
      (g.W.Sink.state c.args.out.now);
}

pub returns-in_err-write_sighting-in-Ok-Hit-clause-fault : goal.returns-in_err-write_sighting-in-Ok-Hit-clause-fault
returns-in_err-write_sighting-in-Ok-Hit-clause-fault g c =
    let failed = err_from_is_err_and c.from_residual.result c.from_residual.ensures.1 in
    rw (failed.1, failed.2) (line_fault _ (Err c.in_err-write_sighting-in-Ok-Hit.field-0.0) _ _ c.in_err-write_sighting-in-Ok-Hit.ensures)

pub returns-in-Ok-Done-clause-fault : goal.returns-in-Ok-Done-clause-fault
returns-in-Ok-Done-clause-fault g c = line_fault _ c.write_end.result _ _ c.write_end.ensures

pub returns-clause-fault : goal.returns-clause-fault
returns-clause-fault g c = line_fault _ c.write_cursor.result _ _ c.write_cursor.ensures

pub returns-clause-handed : goal.returns-clause-handed
returns-clause-handed g c =
    let old : ShelfState = g.Q.Shelf.state c.args.shelf.now in
    let so_far = c.loop-left.invariant in
    reads_room c.args.finder.now.cursor old (g.Q.Shelf.state c.loop-left.shelf) c.args.finder.now.fetched c.loop-left.finder.fetched
    c.requires.fetched (lengths_same old _ so_far.reads) so_far.ahead

pub returns-in-Ok-Done-clause-handed : goal.returns-in-Ok-Done-clause-handed
returns-in-Ok-Done-clause-handed g c =
    let old : ShelfState = g.Q.Shelf.state c.args.shelf.now in
    let mid : ShelfState = g.Q.Shelf.state c.loop-left.shelf in
    reads_room_on c.args.finder.now.cursor old mid (g.Q.Shelf.state c.next.new.shelf) c.args.finder.now.fetched c.loop-left.finder.fetched
    c.next.new.self.fetched c.requires.fetched (lengths_same old mid c.loop-left.invariant.reads) c.in-Ok-Done.ensures.reads.lengths_are
    c.loop-left.invariant.ahead c.in-Ok-Done.ensures.along.reads

pub returns-in-Err-clause-handed : goal.returns-in-Err-clause-handed
returns-in-Err-clause-handed g c =
    let old : ShelfState = g.Q.Shelf.state c.args.shelf.now in
    let mid : ShelfState = g.Q.Shelf.state c.loop-left.shelf in
    reads_room_on c.args.finder.now.cursor old mid (g.Q.Shelf.state c.next.new.shelf) c.args.finder.now.fetched c.loop-left.finder.fetched
    c.next.new.self.fetched c.requires.fetched (lengths_same old mid c.loop-left.invariant.reads) c.in-Err.ensures.reads.lengths_are
    c.loop-left.invariant.ahead c.in-Err.ensures.along.reads

pub returns-in_err-write_sighting-in-Ok-Hit-clause-handed : goal.returns-in_err-write_sighting-in-Ok-Hit-clause-handed
returns-in_err-write_sighting-in-Ok-Hit-clause-handed g c =
    let old : ShelfState = g.Q.Shelf.state c.args.shelf.now in
    let mid : ShelfState = g.Q.Shelf.state c.loop-left.shelf in
    reads_room_on c.args.finder.now.cursor old mid (g.Q.Shelf.state c.next.new.shelf) c.args.finder.now.fetched c.loop-left.finder.fetched
    c.next.new.self.fetched c.requires.fetched (lengths_same old mid c.loop-left.invariant.reads) c.in-Ok-Hit.ensures.reads.lengths_are
    c.loop-left.invariant.ahead c.in-Ok-Hit.ensures.along.reads
