use Rattle.std.proofs.Common.{arith, ◌++◌, ◌-◌, ◌≤◌, replicate}
use Rattle.parwindow.proofs.tail_laws.TailContentLaws.{zeros_more}
use Rattle.parwindow.proofs.window.hash_zeros.Goals as goal

pub loop-left-preserved : goal.loop-left-preserved
loop-left-preserved c =
    let left = c.loop-left.left in
    let n = c.min-n.result in
    let within = c.loop-left.invariant.0 in
    let few : n ≤ left = omega (arith, c.min-n.ensures) in
    let fits : n ≤ 1024 = omega (arith, c.min-n.ensures) in (
      omega (arith, within),
      λ m holds. rw (zeros_more m c.args.count left n 1024 within few fits)
          at (c.update.ensures (m ++ replicate (c.args.count - left) 0)
          (c.loop-left.invariant.1 m holds)),
    )
