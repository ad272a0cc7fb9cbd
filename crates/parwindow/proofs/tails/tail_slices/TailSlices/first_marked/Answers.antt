use Rattle.std.proofs.Common.{◌≡◌, ◌-◌, ◌∙◌, IsTrue, true, false, inl, inr, sym, arith, w64}
use Rattle.std.specs.Int.{bit_at}
use Rattle.std.proofs.lemmas.Bool.{cases_lt}
use Rattle.std.proofs.lemmas.Nat.Bits.{bit_at-lt, bit_at-trailing_zeros, shr_and_one}
use Rattle.parwindow.specs.Ahead.{is_tail_register}
use Rattle.parwindow.specs.Places.{ended_register}
use Rattle.parwindow.proofs.tail_laws.PlacesLaws.{none_left, unmarked}
use Rattle.parwindow.proofs.tails.tail_slices.TailSlices.first_marked.Goals.{else-left-eq1-via-then-left-eq1+else-has, else-left-eq1-via-else-left-eq1}
use Rattle.parwindow.proofs.tails.tail_slices.TailSlices.first_marked.Goals as goal

pub loop-i-init : goal.loop-i-init
loop-i-init c = λ k from inside below.
    let slices = c.args.self.now in
    let at = c.args.at in
    let clear = (bit_at-trailing_zeros w64 c.args.marks c.requires.marked c.ranges.marks.fits).2 in
    unmarked (λ i. IsTrue (is_tail_register slices.index.now slices.tail.now
    (ended_register slices.tail.now.length c.args.fronts.now.registers c.args.ends.now i)))
    at c.args.marks k (omega (arith, c.requires.few)) from c.requires.marks
    (clear (k - at) (omega arith))

pub returns-then-left-eq0-clause-none : goal.returns-then-left-eq0-clause-none
returns-then-left-eq0-clause-none c = λ k from inside.
    let slices = c.args.self.now in
    let at = c.args.at in
    let i = c.loop-i.i in
    elim (cases_lt k i) [
      | inl early ↦ c.loop-i.invariant k from inside early
      | inr late ↦
          unmarked (λ i. IsTrue (is_tail_register slices.index.now slices.tail.now
          (ended_register slices.tail.now.length c.args.fronts.now.registers c.args.ends.now i)))
          at c.args.marks k (omega (arith, c.requires.few)) from c.requires.marks
          (none_left c.args.marks (i - at) (k - at) c.if-left-eq0.true (omega arith))
    ]

pub loop-i-preserved : goal.loop-i-preserved
loop-i-preserved c = λ k from inside below.
    let slices = c.args.self.now in
    let at = c.args.at in
    let i = c.loop-i.i in
    elim (cases_lt k i) [
      | inl early ↦ c.loop-i.invariant k from inside early
      | inr late ↦
          let here : k ≡ i = omega arith in
          elim c.else-left-eq1.branch [
            | else-left-eq1-via-then-left-eq1+else-has w ↦ λ has.
                let yes : w.has.result ≡ true =
                w.has.ensures ∙ rw (w.register_at.ensures, ← here) has in
                let wrong : false ≡ true = sym w.if-has.false ∙ yes in
                cc
            | else-left-eq1-via-else-left-eq1 w ↦
                let unset = w.if-left-eq1.false in
                let bit : bit_at c.args.marks (i - at) ≡ 0 =
                omega (arith, unset, shr_and_one c.args.marks (i - at), bit_at-lt c.args.marks (i - at)) in
                unmarked (λ i. IsTrue (is_tail_register slices.index.now slices.tail.now
                (ended_register slices.tail.now.length c.args.fronts.now.registers c.args.ends.now i)))
                at c.args.marks k (omega (arith, c.requires.few)) from c.requires.marks (rw here bit)
          ]
    ]
