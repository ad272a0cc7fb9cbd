use Rattle.std.proofs.Common.{◌≡◌, [], ap, sym, ◌∙◌, arith}
use Rattle.std.proofs.lemmas.List.{get_or_default}
use Rattle.std.proofs.lemmas.List.Elements.{AllWithin-more}
use Rattle.parwindow.specs.Directory.{key_of}
use Rattle.parwindow.specs.declared.slices.entries.Entry.{Entry}
use Rattle.parwindow.proofs.slice_laws.DirectoryLaws.{begins_end, begins_next}
use Rattle.parwindow.proofs.slice_laws.SearchLaws.{entry_of}
use Rattle.parwindow.proofs.slices.directory.end_of.Goals as goal

pub returns-then-key_of-key-clause-next : goal.returns-then-key_of-key-clause-next
returns-then-key_of-key-clause-next c =
    let entries = c.args.entries.now in
    let at = c.loop-at.at in
    begins_next entries c.args.key c.args.from at c.requires.sorted c.requires.begins
    c.loop-at.auto.at c.loop-at-test.true c.loop-at.invariant
    (λ d same. c.if-key_of-key.true
    (c.key_of.ensures.key
    ∙ ap (λ (e : Entry). key_of e.crc)
    (get_or_default entries at (entry_of 0 [] 0) d c.loop-at-test.true)
    ∙ same))

pub returns-clause-next : goal.returns-clause-next
returns-clause-next c =
    begins_end c.args.entries.now c.args.key c.args.from c.requires.begins
    (λ k d low high. c.loop-at.invariant k d low (omega arith))

pub loop-at-preserved : goal.loop-at-preserved
loop-at-preserved c =
    let entries = c.args.entries.now in
    let at = c.loop-at.at in
    AllWithin-more (λ (e : Entry). key_of e.crc ≡ c.args.key) entries c.args.from at
    c.loop-at.invariant
    (λ d. ap (λ (e : Entry). key_of e.crc)
    (get_or_default entries at d (entry_of 0 [] 0) c.loop-at-test.true)
    ∙ sym c.key_of.ensures.key
    ∙ c.if-key_of-key.false)
