use Rattle.std.proofs.lemmas.Grind.{common_steps}
use Rattle.std.proofs.Common.{◌≡◌, [], ◌∷◌, ◌++◌, arith}
use Rattle.std.proofs.lemmas.Result.{err_from_is_err_and}
use Rattle.parshelf.specs.Shelf.{ShelfState}
use Rattle.parshelf.proofs.ReadLaws.{ReadsOnly_more}
use Rattle.parreport.proofs.ContentLaws.{HandsBefore-suc, ReadsCandidates-more, checked-more, checked-all}
use Rattle.parreport.proofs.LeaveLaws.{FaultTells_more}
use Rattle.parreport.proofs.states.contents.contents.Goals as goal

pub returns-in_err-lengths-clause-contents : goal.returns-in_err-lengths-clause-contents
returns-in_err-lengths-clause-contents g c = grind (arith, common_steps) steps 100000

pub returns-in_err-lengths-clause-bytes : goal.returns-in_err-lengths-clause-bytes
returns-in_err-lengths-clause-bytes g c = grind (arith, common_steps) steps 100000

pub returns-in_err-lengths-clause-ok : goal.returns-in_err-lengths-clause-ok
returns-in_err-lengths-clause-ok g c = grind (arith, common_steps) steps 100000

pub returns-in_err-lengths-clause-fault : goal.returns-in_err-lengths-clause-fault
returns-in_err-lengths-clause-fault g c = grind (arith, common_steps) steps 100000

pub loop-file-init : goal.loop-file-init
loop-file-init g c = grind (arith, common_steps) steps 100000

pub returns-in_err-content_at-clause-contents : goal.returns-in_err-content_at-clause-contents
returns-in_err-content_at-clause-contents g c = grind (arith, common_steps) steps 400000

pub returns-in_err-content_at-clause-ok : goal.returns-in_err-content_at-clause-ok
returns-in_err-content_at-clause-ok g c = grind (arith, common_steps) steps 400000

pub returns-in_err-content_at-clause-fault : goal.returns-in_err-content_at-clause-fault
returns-in_err-content_at-clause-fault g c =
    let failed = err_from_is_err_and c.from_residual-in_err-content_at.result c.from_residual-in_err-content_at.ensures.1 in
    rw (failed.1, failed.2) (FaultTells_more (g.Q.Shelf.state c.args.shelf.now) (g.Q.Shelf.state c.loop-file.shelf)
    (g.Q.Shelf.state c.content_at.new.shelf) c.in_err-content_at.field-0.0 c.loop-file.invariant.reads c.in_err-content_at.ensures.fault)

pub returns-in_err-map_err-clause-contents : goal.returns-in_err-map_err-clause-contents
returns-in_err-map_err-clause-contents g c = grind (arith, common_steps) steps 400000

pub returns-in_err-map_err-clause-ok : goal.returns-in_err-map_err-clause-ok
returns-in_err-map_err-clause-ok g c = grind (arith, common_steps) steps 400000

pub returns-in_err-map_err-clause-fault : goal.returns-in_err-map_err-clause-fault
returns-in_err-map_err-clause-fault g c =
    let failed = err_from_is_err_and c.from_residual-in_err-map_err.result c.from_residual-in_err-map_err.ensures.1 in
    rw (failed.1, failed.2) (ReadsOnly_more (g.Q.Shelf.state c.args.shelf.now) (g.Q.Shelf.state c.loop-file.shelf)
    (g.Q.Shelf.state c.content_at.new.shelf) c.loop-file.invariant.reads c.in_ok-content_at.ensures.ok)

pub returns-clause-contents : goal.returns-clause-contents
returns-clause-contents g c =
    checked-all c.args.files.now (g.Q.Shelf.state c.args.shelf.now) (g.Q.Shelf.state c.loop-file.shelf) c.loop-file.file c.loop-file.contents.items
    (omega arith) c.loop-file.invariant.reads c.loop-file.invariant.whole

pub returns-clause-bytes : goal.returns-clause-bytes
returns-clause-bytes g c = grind (arith, common_steps) steps 400000

pub returns-clause-ok : goal.returns-clause-ok
returns-clause-ok g c = grind (arith, common_steps) steps 100000

pub returns-clause-fault : goal.returns-clause-fault
returns-clause-fault g c = grind (arith, common_steps) steps 100000

pub returns-in_err-content_at-clause-bytes : goal.returns-in_err-content_at-clause-bytes
returns-in_err-content_at-clause-bytes g c =
    ReadsCandidates-more c.args.files.now (g.Q.Shelf.state c.args.shelf.now) (g.Q.Shelf.state c.loop-file.shelf)
    (g.Q.Shelf.state c.content_at.new.shelf) c.loop-file.file c.loop-file.invariant.reads c.loop-file.invariant.bytes
    c.content_at.ensures.bytes

pub returns-in_err-map_err-clause-bytes : goal.returns-in_err-map_err-clause-bytes
returns-in_err-map_err-clause-bytes g c =
    ReadsCandidates-more c.args.files.now (g.Q.Shelf.state c.args.shelf.now) (g.Q.Shelf.state c.loop-file.shelf)
    (g.Q.Shelf.state c.content_at.new.shelf) c.loop-file.file c.loop-file.invariant.reads c.loop-file.invariant.bytes
    c.content_at.ensures.bytes

pub content_at-requires-clause-lengths : goal.content_at-requires-clause-lengths
content_at-requires-clause-lengths g c = grind (arith, common_steps) steps 100000

pub content_at-requires-clause-file : goal.content_at-requires-clause-file
content_at-requires-clause-file g c = grind (arith, common_steps) steps 100000

pub map_err-requires : goal.map_err-requires
map_err-requires g c = grind (arith, common_steps) steps 100000

pub loop-file-preserved : goal.loop-file-preserved
loop-file-preserved g c =
    let old : ShelfState = g.Q.Shelf.state c.args.shelf.now in
    let now : ShelfState = g.Q.Shelf.state c.loop-file.shelf in
    let new : ShelfState = g.Q.Shelf.state c.content_at.new.shelf in
    let one = c.in_ok-content_at.ensures.ok in
    let pushed : c.push.new.self.items ≡ c.loop-file.contents.items ++ c.in_ok-content_at.field-0 ∷ [] = grind (arith, common_steps) in record {
      reads = ReadsOnly_more old now new c.loop-file.invariant.reads one;
      bytes = HandsBefore-suc c.args.files.now old now new c.loop-file.file c.loop-file.invariant.reads c.loop-file.invariant.bytes c.content_at.ensures.bytes;
      whole = rw pushed (checked-more c.args.files.now old now new c.loop-file.file c.loop-file.contents.items c.in_ok-content_at.field-0 (omega arith)
          c.loop-file.invariant.reads one c.loop-file.invariant.whole c.in_ok-content_at.ensures.content);
    }
