use Rattle.std.proofs.lemmas.Grind.{common_steps}
use Rattle.std.proofs.Common.{arith}
use Rattle.parwindow.proofs.slice_laws.EntryLaws.{index_all, index_skip, index_push}
use Rattle.parwindow.proofs.slices.entries.listed.Goals.{in-Some+in_ok-push, in_default}
use Rattle.parwindow.proofs.slices.entries.listed.Goals as goal

pub loop-number-preserved : goal.loop-number-preserved
loop-number-preserved c =
    let slices = c.args.slices.now in
    elim c.match-slice.branch [
      | in-Some+in_ok-push w ↦
          rw (w.list-is, w.in_ok-push.ensures.items)
          (index_push slices c.loop-number.list.items c.loop-number.number
          _ w.in-Some.hash w.in-Some.crc
          c.loop-number-test.true w.in-Some.is c.loop-number.invariant)
      | in_default w ↦ rw w.list-is
          (index_skip slices c.loop-number.list.items c.loop-number.number _ c.loop-number-test.true
          w.in_default.is c.loop-number.invariant)
    ]

pub returns-clause-few : goal.returns-clause-few
returns-clause-few c = omega (arith, c.loop-number.invariant.few)

pub returns-clause-index : goal.returns-clause-index
returns-clause-index c = index_all c.args.slices.now c.loop-number.list.items c.loop-number.number (omega arith)
    c.loop-number.invariant

pub returns-in_err-list : goal.returns-in_err-list
returns-in_err-list c = grind (arith, common_steps) steps 100000

pub loop-number-init : goal.loop-number-init
loop-number-init c = grind (arith, common_steps) steps 100000

pub offset_bounds-slices-number : goal.offset_bounds-slices-number
offset_bounds-slices-number c = grind (arith, common_steps) steps 100000

pub bounds-slices-number : goal.bounds-slices-number
bounds-slices-number c = grind (arith, common_steps) steps 100000

pub overflow_cast-number : goal.overflow_cast-number
overflow_cast-number c = grind (arith, common_steps) steps 100000

pub returns-in_err-push : goal.returns-in_err-push
returns-in_err-push c = grind (arith, common_steps) steps 400000
