use Rattle.std.proofs.Common.{◌≡◌, ◌-◌, length, slice_index}
use Rattle.parwindow.specs.Index.{slice_passes}
use Rattle.parfind.specs.Fitting.{is_fitting_match}
use Rattle.parfind.specs.Sought.{is_compared, compared_lengths}
use Rattle.parfind.proofs.survey_laws.NotedLaws.{FindsBelow}
use Rattle.parfind.proofs.surveys.exhausted.Exhausted.note_matches.Given as goal

abbrev pub invariant-loop-slice : goal.invariant-loop-slice
invariant-loop-slice l = record {
  found : FindsBelow (slice_passes l.sought.set.slices (is_compared l.sought (slice_index (compared_lengths l.sought) l.k) (is_fitting_match l.sums l.left))) l.from l.fn.found l.found;
  crcs : l.self.crcs ≡ l.fn.self.crcs;
}

abbrev pub decreases-loop-slice : goal.decreases-loop-slice
decreases-loop-slice l = length l.sought.set.slices - l.from
