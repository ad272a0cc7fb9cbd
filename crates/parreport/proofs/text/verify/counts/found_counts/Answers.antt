use Rattle.std.proofs.Common.{◌<◌, ◌&&◌, [], None, arith, false, get_or, length}
use Rattle.std.specs.Str.{bytes_eq}
use Rattle.parset.specs.declared.recovery_set.SetSlice.{SetSlice}
use Rattle.parreport.proofs.CountLaws.{at_most_one, found_count_of-drop_all, found_count_of-drop_more}
use Rattle.parreport.proofs.text.verify.counts.found_counts.Goals as goal

pub loop-index-preserved : goal.loop-index-preserved
loop-index-preserved c =
    let slices = c.args.slices.now in let found = c.args.found.now in let i = c.loop-index.index in
    let d : SetSlice = record { id = record { 0 = [] }; number = 0; length = 0; sums = None } in
    let there : i < length found = omega arith in record {
      counted = λ id.
          omega (
            arith,
            c.in_ok-count_if.ensures id,
            c.loop-index.invariant.counted id,
            found_count_of-drop_more slices found i d false id c.loop-index-test.true there,
          );
      few = λ id.
          omega (
            arith,
            c.in_ok-count_if.ensures id,
            c.loop-index.invariant.few id,
            at_most_one (bytes_eq (get_or slices i d).id.0 id.0 && get_or found i false),
          );
    }

pub returns : goal.returns
returns c = λ id.
    omega (
      arith,
      c.loop-index.invariant.counted id,
      found_count_of-drop_all c.args.slices.now c.args.found.now c.loop-index.index id c.loop-index-test.false,
    )
