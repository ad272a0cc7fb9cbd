use Rattle.std.proofs.Common.{arith}
use Rattle.parwindow.specs.Entries.{is_unfound}
use Rattle.parwindow.proofs.ListLaws.{few_pass}
use Rattle.parwindow.proofs.slice_laws.MissingEntriesLaws.{missing_rises}
use Rattle.parwindow.proofs.slices.entries.Entries.missing.Goals as goal

pub starts_of-requires-clause-sorted : goal.starts_of-requires-clause-sorted
starts_of-requires-clause-sorted c =
    rw (c.deref-2.ensures.value, c.in_ok-list.ensures, c.deref.ensures.value)
    (missing_rises c.args.self.now.list.items c.args.found.now c.args.self.now.rises)

pub starts_of-requires-clause-few : goal.starts_of-requires-clause-few
starts_of-requires-clause-few c =
    rw (c.deref-2.ensures.value, c.in_ok-list.ensures, c.deref.ensures.value)
    (omega (
      arith,
      few_pass (is_unfound c.args.found.now) c.args.self.now.list.items,
      c.args.self.now.few,
    ))

pub invariant_of-result-clause-rises : goal.invariant_of-result-clause-rises
invariant_of-result-clause-rises c =
    rw (c.in_ok-list.ensures, c.deref.ensures.value)
    (missing_rises c.args.self.now.list.items c.args.found.now c.args.self.now.rises)

pub invariant_of-result-clause-few : goal.invariant_of-result-clause-few
invariant_of-result-clause-few c =
    rw (c.in_ok-list.ensures, c.deref.ensures.value)
    (omega (
      arith,
      few_pass (is_unfound c.args.found.now) c.args.self.now.list.items,
      c.args.self.now.few,
    ))
