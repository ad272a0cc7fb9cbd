-- The tails of a full window roll, and it is tested whether some tail then has
-- the CRC-32 of a slice.
use Rattle.std.proofs.Common.{◌≡◌, ℕ, ◌+◌, ◌<◌, ◌≤◌, ◌||◌, Bool, true, false, List, length, take, get_or, sym, ap, ◌∙◌, arith}
use Rattle.std.specs.List.{list_any}
use Rattle.std.proofs.lemmas.List.Folds.{list_any_more}
use Rattle.std.proofs.lemmas.List.{get_or-map, length-map, take_all}
use Rattle.std.proofs.Math.Bool.{or_comm}
use Rattle.parwindow.specs.Crc32.{register_of}
use Rattle.parwindow.specs.Tails.{tail_lengths_of, IsTail}
use Rattle.parwindow.specs.declared.tails.tail.Tail.{Tail}

-- a tail that got the register of the new content is right for it
pub rolled_tail : (size : ℕ) (before after : List ℕ) (old new : Tail) → IsTail size before old
    → new.length ≡ old.length → new.zeros.len ≡ old.zeros.len
    → new.register ≡ register_of (take old.length after) → IsTail size after new
rolled_tail size before after old new was length_is zeros_is moves = record {
  some = rw length_is was.some;
  shorter = rw length_is was.shorter;
  filled = rw (length_is, zeros_is) was.filled;
  rolled = rw length_is moves;
}

-- one length more, which passes the test or doesn't
module _ (p : ℕ → Bool) (lengths : List ℕ) (k own : ℕ) (hit found : Bool)
    (below : k < length lengths) (is : own ≡ get_or lengths k 0)
    (so_far : hit ≡ list_any p (take k lengths)) (finds : found ≡ p own) where
  either : (found || hit) ≡ list_any p (take (k + 1) lengths)
  either =
      rw (finds, is, so_far)
      (or_comm (p (get_or lengths k 0)) (list_any p (take k lengths))
      ∙ sym (list_any_more p lengths k 0 below))

  pub one_passes : found ≡ true → found ≡ list_any p (take (k + 1) lengths)
  one_passes passes = passes ∙ ap (λ b. b || hit) (sym passes) ∙ either

  pub one_fails : found ≡ false → hit ≡ list_any p (take (k + 1) lengths)
  one_fails fails = ap (λ b. b || hit) (sym fails) ∙ either

-- the length of tail k, in the list of all lengths
module _ (tails : List Tail) (lengths : List ℕ) (k : ℕ) (are : tail_lengths_of tails ≡ lengths) where
  pub length_at : (e : Tail) → k < length tails
      → (k < length lengths) × ((get_or tails k e).length ≡ get_or lengths k 0)
  length_at e below = (
    rw (← are, length-map) below,
    sym (get_or-map (λ (tail : Tail). tail.length) tails k e 0 below)
        ∙ ap (λ xs. get_or xs k 0) are,
  )

  pub all_lengths : length tails ≤ k → take k lengths ≡ tail_lengths_of tails
  all_lengths few =
      rw (← are) (take_all k (tail_lengths_of tails)
      (omega (arith, few, length-map tails (λ (tail : Tail). tail.length))))
