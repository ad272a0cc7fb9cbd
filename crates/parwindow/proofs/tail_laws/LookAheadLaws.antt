-- Tails that look ahead, one after another.
use Rattle.std.proofs.Common.{◌≡◌, ◌≢◌, ℕ, ◌+◌, ◌<◌, ◌≤◌, List, length, get_or, set, inl, inr, refl, sym, ap, ◌∙◌, arith, get_or-set_same, get_or-set_other}
use Rattle.std.proofs.lemmas.Bool.{cases_lt}
use Rattle.std.proofs.lemmas.List.{get_or_default, length-map}
use Rattle.std.specs.Prelude.{All, IsTrue}
use Rattle.parwindow.specs.Ahead.{is_tail_register, own_register, passed_of, AreOneTail, HasPassed}
use Rattle.parwindow.specs.Index.{SliceSet}
use Rattle.parwindow.specs.Rolling.{StopsAt}
use Rattle.parwindow.specs.Tails.{tail_lengths_of, IsTail}
use Rattle.parwindow.specs.declared.rolling.roll.Roll.{Roll}
use Rattle.parwindow.specs.declared.tails.tail.Tail.{Tail}
use Rattle.parwindow.proofs.tail_laws.RollAlongLaws.{tail_passed}
use Rattle.parwindow.proofs.tail_laws.RollTailsLaws.{rolled_tail}

-- if two lists of tails have the same lengths, they have the same number of tails
pub as_long : (a b : List Tail) → tail_lengths_of a ≡ tail_lengths_of b → length a ≡ length b
as_long a b same =
    sym (length-map a (λ (tail : Tail). tail.length)) ∙ ap length same
    ∙ length-map b (λ (tail : Tail). tail.length)

module _ (tails : List Tail) (k : ℕ) (t e : Tail) (below : k < length tails)
    (is : AreOneTail t (get_or tails k e)) where
  pub same_but : (j : ℕ) (d : Tail) → AreOneTail (get_or (set tails k t) j d) (get_or tails j d)
  same_but j d = elim (cases_lt j k) [
    | inl less ↦
        let ne : j ≢ k = omega arith in
        rw get_or-set_other (record { length = refl; zeros = refl; register = refl })
    | inr up ↦ elim (cases_lt k j) [
      | inl more ↦
          let ne : j ≢ k = omega arith in
          rw get_or-set_other (record { length = refl; zeros = refl; register = refl })
      | inr last ↦
          let here : j ≡ k = omega arith in
          rw (here, get_or-set_same, get_or_default tails k d e below) is
    ]
  ]

-- one tail looks ahead, and the others stay as they are
module _ (slices : SliceSet) (content bytes : List ℕ) (now after : List Tail) (k : ℕ)
    (keeps : (j : ℕ) (d : Tail) → AreOneTail (get_or after j d) (get_or now j d)) where
  -- each tail is still right for the content
  pub look_each : (size : ℕ) → tail_lengths_of after ≡ tail_lengths_of now
      → All (IsTail size content) now → All (IsTail size content) after
  look_each size lengths are j d below =
      let was = are j d (omega (arith, as_long after now lengths, below)) in
      let is = keeps j d in
      rolled_tail size content content (get_or now j d) (get_or after j d) was is.length is.zeros
      (is.register ∙ was.rolled)

  -- no more bytes are passed than by the tails before this one, and if these are all bytes, this
  -- tail passes them too
  pub look_more : (t : Tail) (limit passed : ℕ) (s : Roll) → k < length now → t ≡ get_or now k t
      → ((j : ℕ) (d : Tail) → j ≢ k → get_or after j d ≡ get_or now j d)
      → ((d : Tail) → (get_or after k d).ahead ≡ s.register) → limit ≤ length bytes
      → StopsAt (λ register. IsTrue (is_tail_register slices t register))
      (own_register t.length content bytes) limit s
      → passed ≡ passed_of s
      → (limit ≡ length bytes → (j : ℕ) (d : Tail) → j < k
      → HasPassed slices content bytes (get_or now j d))
      → (passed ≤ limit) × (passed ≡ length bytes → (j : ℕ) (d : Tail) → j < k + 1
      → HasPassed slices content bytes (get_or after j d))
  look_more t limit passed s below there others ahead within stops is past =
      let one : (d : Tail) → (passed ≤ limit) × (passed ≡ length bytes
      → (limit ≡ length bytes) × HasPassed slices content bytes (get_or after k d)) = λ d.
      let was : get_or now k d ≡ t = get_or_default now k d t below ∙ sym there in
      let same = rw was at (keeps k d) in
      tail_passed slices content bytes t (get_or after k d) limit passed s same.length
      same.zeros (ahead d) within stops is
      in (
        (one t).0,
        λ whole j d less. elim (cases_lt j k) [
          | inl before ↦
              let ne : j ≢ k = omega arith in
              rw (others j d ne) (past ((one d).1 whole).0 j d before)
          | inr up ↦ let here : j ≡ k = omega arith in rw here ((one d).1 whole).1
        ],
      )
