use Rattle.std.proofs.Common.{rules, ◌≡◌, ◌<◌, true, false, arith, ap, sym, ◌∙◌, length}
use Rattle.parwindow.specs.Index.{has_known_sums, slice_passes}
use Rattle.parwindow.specs.Missing.{found_at}
use Rattle.parfind.specs.Sought.{Sought}
use Rattle.parfind.proofs.survey_laws.LeastMissingLaws.{least_all, least_found, least_more, least_unknown}
use Rattle.parfind.proofs.surveys.walk.least_missing.Goals.{then-not-found-number+then-has_sums, else-not-found-number, else-not-found-number-via-then-not-found-number+else-has_sums, else-not-found-number-via-else-not-found-number}
use Rattle.parfind.proofs.surveys.walk.least_missing.Goals as goal

pub loop-number-preserved : goal.loop-number-preserved
loop-number-preserved c =
    let slices = c.args.sought.now.set.slices in
    let found = c.args.found.now in
    let n = c.loop-number.number in
    let so_far = c.loop-number.invariant in
    let view = ap (λ (s : Sought). s.set) c.sought.view_is in
    let all = ap (λ (s : Sought). length s.set.slices) c.sought.view_is in
    let within : n < length slices = omega (arith, all, c.slices-number-end.ensures.slices, c.loop-number-test.true) in
    elim c.if-not-found-number.branch [
      | then-not-found-number+then-has_sums w ↦
          let open_ : found_at found n ≡ false = search rules in
          let knows : slice_passes slices has_known_sums n ≡ true = rw (← view) (sym w.has_sums.ensures ∙ w.if-has_sums.true) in
          rw (w.least-is, w.min-least.ensures)
          (least_more slices found c.requires n c.loop-number.least within so_far open_ w.own_length.result w.own_length.ensures.some knows
          (rw (← view) w.own_length.ensures.own))
      | else-not-found-number w ↦ rw w.least-is (elim w.else-not-found-number.branch [
        | else-not-found-number-via-then-not-found-number+else-has_sums w' ↦
            let open_ : found_at found n ≡ false = search rules in
            let lacks : slice_passes slices has_known_sums n ≡ false = rw (← view) (sym w'.has_sums.ensures ∙ w'.if-has_sums.false) in
            least_unknown slices found c.requires n c.loop-number.least within so_far open_ lacks
        | else-not-found-number-via-else-not-found-number w' ↦
            let is : found_at found n ≡ true = search rules in
            least_found slices found c.requires n c.loop-number.least within so_far is
      ])
    ]

pub returns-clause-least : goal.returns-clause-least
returns-clause-least c =
    let all = ap (λ (s : Sought). length s.set.slices) c.sought.view_is in
    least_all c.args.sought.now.set.slices c.args.found.now c.requires c.loop-number.number c.loop-number.least
    (omega (arith, all, c.slices-number-end.ensures.slices, c.loop-number-test.false)) c.loop-number.invariant
