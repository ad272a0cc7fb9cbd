use Rattle.std.proofs.Common.{arith, slice_index}
use Rattle.parwindow.specs.Index.{slice_passes}
use Rattle.parfind.specs.Fitting.{is_fitting_match}
use Rattle.parfind.specs.Sought.{is_compared, compared_lengths}
use Rattle.parfind.proofs.survey_laws.NotedLaws.{below_more}
use Rattle.parfind.proofs.surveys.exhausted.Exhausted.note_matches.Goals as goal

pub loop-slice-preserved : goal.loop-slice-preserved
loop-slice-preserved c =
    let sought = c.args.sought.now in
    let held = c.loop-slice.invariant in record {
      found = below_more (slice_passes c.args.sought.now.set.slices (is_compared sought (slice_index (compared_lengths sought) c.args.k) (is_fitting_match c.args.sums c.args.left)))
          c.args.found.now c.loop-slice.found c.loop-slice.from c.in-Some.slice c.in-Some.ensures.first (omega (arith, c.in-Some.ensures.there, c.requires.each)) held.found;
      crcs = held.crcs;
    }
