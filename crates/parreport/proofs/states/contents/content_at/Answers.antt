use Rattle.std.proofs.lemmas.Grind.{common_steps}
use Rattle.std.proofs.Common.{◌≡◌, ◌∙◌, ap, arith, slice_index, sym, true, false}
use Rattle.parshelf.specs.Shelf.{ShelfState}
use Rattle.parreport.specs.States.{has_length}
use Rattle.parshelf.proofs.ReadLaws.{ReadsOnly-refl, HandsAtMost_wider}
use Rattle.parshelf.proofs.ShelfLaws.{HandsOver-none}
use Rattle.parreport.proofs.ContentLaws.{asked_whole, checked_some, checked_none}
use Rattle.parreport.proofs.states.contents.content_at.Goals as goal

pub returns-in-Ok-clause-bytes : goal.returns-in-Ok-clause-bytes
returns-in-Ok-clause-bytes g c =
    let files = c.args.files.now in
    let old : ShelfState = g.Q.Shelf.state c.args.shelf.now in
    let asked : has_length files (slice_index old.lengths c.args.file) ≡ true
    = ap (has_length files) (sym c.length-length.ensures.value)
    ∙ (sym (c.requires.lengths c.length-length.result) ∙ (sym c.contains.ensures ∙ c.if-not-contains.false)) in
    let whole = asked_whole files (slice_index old.lengths c.args.file) asked in
    record { count = slice_index old.lengths c.args.file; within = omega (arith, whole); after = c.in-Ok.ensures.leaves.1 }

pub returns-in-Err-clause-bytes : goal.returns-in-Err-clause-bytes
returns-in-Err-clause-bytes g c =
    let files = c.args.files.now in
    let old : ShelfState = g.Q.Shelf.state c.args.shelf.now in
    let asked : has_length files (slice_index old.lengths c.args.file) ≡ true
    = ap (has_length files) (sym c.length-length.ensures.value)
    ∙ (sym (c.requires.lengths c.length-length.result) ∙ (sym c.contains.ensures ∙ c.if-not-contains.false)) in
    let whole = asked_whole files (slice_index old.lengths c.args.file) asked in
    HandsAtMost_wider old _ c.args.file _ _ c.in-Err.ensures.leaves.1 (omega (arith, whole))

pub returns-then-not-contains-clause-bytes : goal.returns-then-not-contains-clause-bytes
returns-then-not-contains-clause-bytes g c = record { count = 0; within = omega arith; after = HandsOver-none _ _ }

pub returns-then-not-contains-clause-ok : goal.returns-then-not-contains-clause-ok
returns-then-not-contains-clause-ok g c = ReadsOnly-refl (g.Q.Shelf.state c.args.shelf.now)

pub returns-then-not-contains-clause-fault : goal.returns-then-not-contains-clause-fault
returns-then-not-contains-clause-fault g c = grind (arith, common_steps) steps 100000

pub returns-in-Ok-clause-ok : goal.returns-in-Ok-clause-ok
returns-in-Ok-clause-ok g c =
    c.in-Ok.ensures.leaves.0

pub returns-in-Ok-clause-fault : goal.returns-in-Ok-clause-fault
returns-in-Ok-clause-fault g c = grind (arith, common_steps) steps 100000

pub returns-in-Err-clause-content : goal.returns-in-Err-clause-content
returns-in-Err-clause-content g c = grind (arith, common_steps) steps 100000

pub returns-in-Err-clause-ok : goal.returns-in-Err-clause-ok
returns-in-Err-clause-ok g c = grind (arith, common_steps) steps 100000

pub returns-in-Err-clause-fault : goal.returns-in-Err-clause-fault
returns-in-Err-clause-fault g c =
    c.in-Err.ensures.leaves.0

pub returns-then-not-contains-clause-content : goal.returns-then-not-contains-clause-content
returns-then-not-contains-clause-content g c = λ scanned reads.
    let files = c.args.files.now in
    let other : has_length files c.length-length.result ≡ false
    = sym (c.requires.lengths c.length-length.result) ∙ (sym c.contains.ensures ∙ c.if-not-contains.true) in
    checked_none files (g.Q.Shelf.state c.args.shelf.now) scanned c.args.file c.length-length.result reads c.length-length.ensures.value other

pub returns-in-Ok-clause-content : goal.returns-in-Ok-clause-content
returns-in-Ok-clause-content g c = λ scanned reads.
    let files = c.args.files.now in
    let asked : has_length files c.length-length.result ≡ true
    = sym (c.requires.lengths c.length-length.result) ∙ (sym c.contains.ensures ∙ c.if-not-contains.false) in
    checked_some files (g.Q.Shelf.state c.args.shelf.now) scanned c.args.file c.length-length.result c.in-Ok.whole
    (c.in-Ok.ensures.leaves.0.older scanned reads) c.length-length.ensures.value asked (c.in-Ok.ensures.digest scanned reads)
