use Rattle.std.proofs.lemmas.Grind.{common_steps}
use Rattle.std.proofs.Common.{arith, length-drop}
use Rattle.std.proofs.lemmas.List.{take_rest}
use Rattle.parshelf.proofs.FrontLaws.{appended_more, RefusesFront_after}
use Rattle.parshelf.proofs.sinks.writing.write_text.Goals as goal

pub loop-done-preserved : goal.loop-done-preserved
loop-done-preserved g c = record {
  within = omega (arith, c.in-Ok.ensures.bound);
  so_far = appended_more _ _ _ c.args.text.now _ c.in-Ok.n c.loop-done.invariant.so_far (rw take_rest at (c.in-Ok.ensures.taken (omega (arith, c.in-Ok.n-test.1))));
}

pub returns-in-Ok-eq0-clause-err : goal.returns-in-Ok-eq0-clause-err
returns-in-Ok-eq0-clause-err g c =
    RefusesFront_after _ _ _ c.args.text.now c.loop-done.done c.loop-done.invariant.so_far
    (c.in-Ok-eq0.ensures.full c.in-Ok-eq0.field-0-test (simp (take_rest, length-drop) (omega arith)))

pub returns-in-Err-clause-err : goal.returns-in-Err-clause-err
returns-in-Err-clause-err g c =
    RefusesFront_after _ _ _ c.args.text.now c.loop-done.done c.loop-done.invariant.so_far c.in-Err.ensures.failed

pub loop-done-init : goal.loop-done-init
loop-done-init g c = grind (arith, common_steps) steps 100000

pub slice_bounds-put-count : goal.slice_bounds-put-count
slice_bounds-put-count g c = grind (arith, common_steps) steps 100000

pub slice_bounds-put-start : goal.slice_bounds-put-start
slice_bounds-put-start g c = grind (arith, common_steps) steps 100000

pub slice_bounds-put-end : goal.slice_bounds-put-end
slice_bounds-put-end g c = grind (arith, common_steps) steps 100000

pub returns-in-Ok-eq0-clause-ok : goal.returns-in-Ok-eq0-clause-ok
returns-in-Ok-eq0-clause-ok g c = grind (arith, common_steps) steps 100000

pub overflow_add-done : goal.overflow_add-done
overflow_add-done g c = grind (arith, common_steps) steps 100000

pub returns-in-Err-clause-ok : goal.returns-in-Err-clause-ok
returns-in-Err-clause-ok g c = grind (arith, common_steps) steps 100000

pub returns-clause-ok : goal.returns-clause-ok
returns-clause-ok g c = grind (arith, common_steps) steps 100000

pub returns-clause-err : goal.returns-clause-err
returns-clause-err g c = grind (arith, common_steps) steps 100000
