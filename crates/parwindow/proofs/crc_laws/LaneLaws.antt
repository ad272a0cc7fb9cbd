-- Operations on vectors of sixteen bytes, byte by byte.
use Rattle.std.proofs.Common.{◌≡◌, ◌≢◌, ℕ, ◌%◌, ◌^◌, ◌<◌, false, not, cond, eqb, List, length, get_or, map, replicate, refl, sym, ap, ◌∙◌, inl, inr, arith, w8}
use Rattle.std.specs.Int.{bit_at}
use Rattle.std.specs.Simd.Lanes.{zip2, mask_l, top}
use Rattle.std.proofs.lemmas.Simd.{length-zip2, get_or-zip2, get_or-replicate, length-swz_l, get_or-swz_l_below, swz_l, SwzOk, SwzOk-from_below, Each1-from_get_or, bit_mask_l, bitmask_splat}
use Rattle.std.proofs.lemmas.Bool.{cases_Bool, eqb-true}
use Rattle.std.proofs.lemmas.List.{get_or-map}
use Rattle.parwindow.specs.Lanes.{HasLanes}

-- an operator on two vectors
pub HasLanes-zip2 : (f : ℕ → ℕ → ℕ) (a b : List ℕ) → length a ≡ 16 → length b ≡ 16
    → HasLanes (zip2 f a b) (λ i. f (get_or a i 0) (get_or b i 0))
HasLanes-zip2 f a b p q = record {
  long = length-zip2 f a b (p ∙ sym q) ∙ p;
  each = λ i l. get_or-zip2 f a b i 0 0 0 (omega arith) (omega arith);
}

-- an operator on a vector and a vector that repeats one byte
pub HasLanes-splat : (f : ℕ → ℕ → ℕ) (a : List ℕ) (x : ℕ) → length a ≡ 16
    → HasLanes (zip2 f a (replicate 16 x)) (λ i. f (get_or a i 0) x)
HasLanes-splat f a x p =
    let h = HasLanes-zip2 f a (replicate 16 x) p refl in
    record {
      long = h.long;
      each = λ i l. h.each i l ∙ ap (f (get_or a i 0)) (get_or-replicate 16 i x 0 l);
    }

-- indices below 16 may be looked up
module _ (places : List ℕ) (long : length places ≡ 16)
    (small : (i : ℕ) → i < 16 → get_or places i 0 < 16) where
  pub may_look_up : SwzOk w8 16 16 0 places
  may_look_up =
      SwzOk-from_below w8 16 1 16 0 places refl (omega arith)
      (Each1-from_get_or (λ j. j < 16) places 0 (λ i l. small i (omega arith)))

  pub HasLanes-look_up : (table : List ℕ)
      → HasLanes (swz_l w8 16 table 0 places) (λ i. get_or table (get_or places i 0) 0)
  HasLanes-look_up table = record {
    long = length-swz_l w8 16 table 0 places ∙ long;
    each = λ i l.
        get_or-swz_l_below w8 16 table 0 places i (omega arith) (small i l)
        ∙ ap (λ j. get_or table j 0) (omega arith);
  }

-- a byte that isn't 0 has its bit set
pub marked : (v : List ℕ) (i : ℕ) → length v ≡ 16 → i < 16 → get_or v i 0 ≢ 0
    → bit_at (mask_l (map (top 7) (zip2 (λ a b. cond (not (eqb a b)) 255 0) v (replicate 16 0))) % 2 ^ 64) i ≡ 1
marked v i long below some =
    let test = λ (a b : ℕ). not (eqb a b) in
    let no : eqb (get_or v i 0) 0 ≡ false = elim (cases_Bool (eqb (get_or v i 0) 0)) [
      | inl zero_is ↦ absurd (some (eqb-true (get_or v i 0) 0 zero_is))
      | inr other ↦ other
    ] in
    ap (λ m. bit_at m i) (bitmask_splat w8 test v 16 0 long (omega arith))
    ∙ bit_mask_l (map (λ x. test x 0) v) i
    ∙ ap (λ b. cond b 1 0) (get_or-map (λ x. test x 0) v i 0 false (omega arith) ∙ ap not no)
