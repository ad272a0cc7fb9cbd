use Rattle.parwindow.proofs.slice_laws.EntryLaws.{IndexSoFar}
use Rattle.parwindow.proofs.slices.entries.listed.Given as goal

abbrev pub invariant-loop-number : goal.invariant-loop-number
invariant-loop-number l = IndexSoFar l.slices l.number l.list.items
