use Rattle.std.proofs.Common.{◌≡◌, ℕ, ◌-◌, ◌==◌, length, take, ap, arith, rules}
use Rattle.std.specs.List.{suffix_len}
use Rattle.std.proofs.lemmas.List.{take_all}
use Rattle.std.proofs.lemmas.List.Sums.{suffix_len-take_yes, suffix_len-take_no}
use Rattle.parset.specs.Bodies.{without_end_zeros}
use Rattle.parset.proofs.bodies.body_bytes.trimmed.Goals as goal
use Rattle.parset.proofs.bodies.body_bytes.trimmed.Goals.{then-loop-end-test+else-bytes-end-eq0, else-loop-end-test}

pub loop-end-init : goal.loop-end-init
loop-end-init c = search (rules, take_all)

pub loop-end-preserved : goal.loop-end-preserved
loop-end-preserved c = grind (arith, suffix_len-take_yes)

pub returns : goal.returns
unfolding without_end_zeros
returns c =
    let s = c.args.bytes.now in
    let stops : suffix_len (λ (b : ℕ). b == 0) (take c.loop-end.end s) ≡ 0 =
    elim c.loop-end-test.branch [
      | then-loop-end-test+else-bytes-end-eq0 w ↦ grind (arith, suffix_len-take_no)
      | else-loop-end-test w ↦ let none : c.loop-end.end ≡ 0 = omega arith in rw none
    ] in
    let at : c.loop-end.end ≡ length s - suffix_len (λ (b : ℕ). b == 0) s = omega (arith, c.loop-end.invariant.1) in
    ap (λ n. take n s) at
