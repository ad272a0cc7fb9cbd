use Rattle.std.proofs.Common.{length, ap, sym, ◌∙◌}
use Rattle.parwindow.specs.Index.{SliceSet}
use Rattle.parwindow.proofs.slice_laws.MissingEntriesLaws.{entries_within, missing_index}
use Rattle.parwindow.proofs.slice_laws.UnlessFoundLaws.{missing_good}
use Rattle.parwindow.proofs.index.Index.missing.Goals as goal

pub of-requires-clause-set : goal.of-requires-clause-set
of-requires-clause-set c =
    rw (
      c.in_ok-slices.ensures,
      c.as_slice.ensures,
      c.size.ensures.size,
      ap (λ (set : SliceSet). set.slices) c.self.view_is,
    )
    (missing_good c.args.self.now c.args.found.now c.requires c.size.ensures.set)

pub of-requires-clause-entries : goal.of-requires-clause-entries
of-requires-clause-entries c =
    let each = c.requires ∙ ap (λ (set : SliceSet). length set.slices) (sym c.self.view_is) in
    rw (c.in_ok-slices.ensures, c.as_slice.ensures, c.in_ok-entries.ensures)
    (missing_index c.self.inside.slices c.args.found.now c.self.inside.entries.list.items each
    c.self.invariant.indexes)

pub missing-requires : goal.missing-requires
missing-requires c =
    let each = c.requires ∙ ap (λ (set : SliceSet). length set.slices) (sym c.self.view_is) in
    rw each (entries_within c.self.inside.slices c.self.inside.entries.list.items
    c.self.invariant.indexes)
