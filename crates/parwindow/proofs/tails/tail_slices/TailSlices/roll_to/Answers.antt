use Rattle.std.proofs.Common.{ℕ, IsTrue, arith}
use Rattle.parwindow.specs.Ahead.{is_tail_register}
use Rattle.parwindow.specs.Places.{ended_register}
use Rattle.parwindow.proofs.tail_laws.PlacesLaws.{none_marked, none_more}
use Rattle.parwindow.proofs.tails.tail_slices.TailSlices.roll_to.Goals.{then-marks-eq0, else-marks-eq0}
use Rattle.parwindow.proofs.tails.tail_slices.TailSlices.roll_to.Goals as goal

pub loop-at-preserved : goal.loop-at-preserved
loop-at-preserved c =
    let slices = c.args.self.now in
    let Has : ℕ → Type 0 = λ i. IsTrue (is_tail_register slices.index.now slices.tail.now
    (ended_register slices.tail.now.length c.args.fronts.now.registers c.args.ends.now i)) in
    let at = c.loop-at.at in
    let to = c.min-to.result in
    record {
      within = omega arith;
      none = elim c.if-marks-eq0.branch [
        | then-marks-eq0 w ↦
            none_more Has at to c.loop-at.invariant.none
            (none_marked Has at to c.marks-marks.result (omega arith) c.marks-marks.ensures w.if-marks-eq0.true)
        | else-marks-eq0 w ↦
            none_more Has at to c.loop-at.invariant.none
            (λ i from below. w.first_marked-stop.ensures.none i from
            (omega (arith, below, w.stop-is, c.if-stop-to.false)))
      ];
    }
