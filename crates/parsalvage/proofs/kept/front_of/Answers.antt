use Rattle.std.proofs.Common.{arith}
use Rattle.std.proofs.lemmas.Grind.{common_steps}
use Rattle.parsalvage.proofs.KeptLaws.{front_of-written}
use Rattle.parsalvage.proofs.kept.front_of.Goals as goal

pub returns : goal.returns
returns c = rw c.copy_from_slice.ensures.after (front_of-written c.args.body.now c.min-size.result c.min-size.ensures)

pub slice_bounds-first-end : goal.slice_bounds-first-end
slice_bounds-first-end c = grind (arith, common_steps) steps 100000

pub slice_bounds-copy_from_slice-end : goal.slice_bounds-copy_from_slice-end
slice_bounds-copy_from_slice-end c = grind (arith, common_steps) steps 100000

pub slice_bounds-copy_from_slice-end-2 : goal.slice_bounds-copy_from_slice-end-2
slice_bounds-copy_from_slice-end-2 c = grind (arith, common_steps) steps 100000

pub copy_from_slice-requires : goal.copy_from_slice-requires
copy_from_slice-requires c = grind (arith, common_steps) steps 100000
