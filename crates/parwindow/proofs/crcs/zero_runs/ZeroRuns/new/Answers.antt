-- Runs of zeros, each twice as long as the one before.
use Rattle.std.proofs.Common.{◌≡◌, ℕ, ◌+◌, ◌*◌, ◌^◌, ◌<◌, List, [], ◌∷◌, ◌++◌, length, get_or, ap, ◌∙◌, arith, add-one, below_more, length-append}
use Rattle.std.proofs.lemmas.List.{get_or_append_left, get_or-append-add}
use Rattle.std.proofs.Math.Nat.{pow-suc}
use Rattle.parwindow.specs.Powers.{ArePowers}
use Rattle.parwindow.specs.declared.crcs.zero_run.ZeroRun.{ZeroRun}
use Rattle.parwindow.proofs.crcs.zero_runs.ZeroRuns.new.Goals as goal

-- after n runs, the next one is twice as long as the last
pub powers_more : (runs : List ZeroRun) (i : ℕ) (run : ZeroRun) (twice : ℕ) → ArePowers i runs
    → run.len ≡ 2 ^ i → twice ≡ 2 * run.len
    → ArePowers (i + 1) (runs ++ run ∷ []) × (twice ≡ 2 ^ (i + 1))
powers_more runs i run twice powers is doubled =
    let count : length runs ≡ i = powers.0 in
    let next : 2 ^ (i + 1) ≡ 2 ^ i * 2 = rw add-one (pow-suc 2 i) in
    let last : (d : ZeroRun) → (get_or (runs ++ run ∷ []) i d).len ≡ 2 ^ i =
    λ d.
    let place : length runs + 0 ≡ i = omega (arith, count) in
    ap (λ (r : ZeroRun). r.len) (rw place at (get_or-append-add runs (run ∷ []) 0 d)) ∙ is in (
      (
        omega (arith, count, length-append runs (run ∷ [])),
        λ k d below. below_more (λ k. (get_or (runs ++ run ∷ []) k d).len ≡ 2 ^ k) i
            (λ k early.
            let inside : k < length runs = omega (arith, early, count) in
            ap (λ (r : ZeroRun). r.len) (get_or_append_left runs (run ∷ []) d k inside)
            ∙ powers.1 k d early)
            (last d) k below,
      ),
      omega (arith, next, doubled, is),
    )

pub loop-i-preserved : goal.loop-i-preserved
loop-i-preserved c =
    rw c.in_ok-push.ensures.items
    (powers_more c.loop-i.runs.items c.loop-i._i c.loop-i.run c.twice-next.result.len
    c.loop-i.invariant.0 c.loop-i.invariant.1 c.twice-next.ensures)
