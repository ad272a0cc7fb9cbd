-- A run of zero bytes is a linear map of registers, given by the register that
-- it makes of each bit.
use Rattle.std.proofs.Common.{◌≡◌, ℕ, zero, suc, ◌+◌, ◌*◌, ◌/◌, ◌%◌, ◌^◌, ◌<◌, List, get_or, refl, sym, ap, ◌∙◌, inl, inr, arith, zero-add, length, set, ◌≢◌, below_more, get_or-set_same, get_or-set_other}
use Rattle.std.proofs.Math.ListN.{length-set}
use Rattle.std.specs.Int.Bits.{bit_and, bit_xor, xor_zero_r}
use Rattle.std.specs.Int.{bit_at}
use Rattle.std.proofs.lemmas.Nat.{and_le_r, mod-pow-add, mod_below, pow_pos, one_shl, xor_comm}
use Rattle.std.proofs.lemmas.Bool.{cases_eq}
use Rattle.std.proofs.lemmas.Nat.Bits.{shr_and_one, bit_at-lt}
use Rattle.std.proofs.Math.Nat.{mod-eq_of_lt, one-mul, mul-one, mul-zero, zero-mul, mod-one}
use Rattle.parwindow.specs.Crc32.{crc_steps, register_after}
use Rattle.parwindow.specs.Crc32.{crc_step}
use Rattle.parwindow.proofs.crc_laws.CrcLaws.{crc_steps-xor, crc_steps-add}
use Rattle.parwindow.proofs.crc_laws.XorLaws.{xor_parts}

pub crc_steps_none : (r : ℕ) → crc_steps 0 r ≡ r
unfolding crc_steps
crc_steps_none r = refl

pub crc_steps-nothing : (n : ℕ) → crc_steps n 0 ≡ 0
unfolding crc_steps crc_step
crc_steps-nothing zero = refl
crc_steps-nothing (suc n) = crc_steps-nothing n

-- the lowest i + 1 bits of a number are its bit i and the bits below
pub mod_more : (n i : ℕ) → n % 2 ^ (i + 1) ≡ bit_at n i * 2 ^ i + n % 2 ^ i
mod_more n i = let e : i + 1 ≡ 1 + i = omega arith in rw e (mod-pow-add n 1 i)

apply_more_one : (len r i c out : ℕ) → out ≡ crc_steps (8 * len) (r % 2 ^ i)
    → c ≡ crc_steps (8 * len) (2 ^ i) → bit_and (r / 2 ^ i) 1 ≡ 1
    → bit_xor out c ≡ crc_steps (8 * len) (r % 2 ^ (i + 1))
apply_more_one len r i c out so_far column set =
    let bit : bit_at r i ≡ 1 = sym (shr_and_one r i) ∙ set in
    let parts = xor_parts i 1 (r % 2 ^ i) (mod_below r (2 ^ i) (pow_pos i)) in
    let sum : 2 ^ i + r % 2 ^ i ≡ bit_xor (2 ^ i) (r % 2 ^ i) = rw one-mul at parts in
    rw (
      mod_more r i,
      bit,
      one-mul,
      sum,
      xor_comm (2 ^ i) (r % 2 ^ i),
      crc_steps-xor (8 * len) (r % 2 ^ i)
          (2 ^ i),
      so_far,
      column,
    ) refl

pub apply_none : (n r : ℕ) → 0 ≡ crc_steps n (r % 1)
apply_none n r = rw mod-one (sym (crc_steps-nothing n))

pub apply_all : (n r out : ℕ) → r < 2 ^ 32 → out ≡ crc_steps n (r % 2 ^ 32) → out ≡ crc_steps n r
apply_all n r out small is = is ∙ ap (crc_steps n) (mod-eq_of_lt small)

pub bit_more : (i : ℕ) → i < 32 → 1 * 2 ^ i % 2 ^ 32 ≡ 2 ^ i
bit_more i below = one_shl i 32 below

pub fill_more : (f : ℕ → ℕ) (xs : List ℕ) (i v : ℕ) → i < length xs → v ≡ f i
    → ((k : ℕ) → k < i → get_or xs k 0 ≡ f k)
    → (k : ℕ) → k < i + 1 → get_or (set xs i v) k 0 ≡ f k
fill_more f xs i v within is below =
    below_more (λ k. get_or (set xs i v) k 0 ≡ f k) i
    (λ k h. let ne : k ≢ i = omega arith in rw get_or-set_other (below k h))
    (rw get_or-set_same is)

apply_more_zero : (len r i out : ℕ) → out ≡ crc_steps (8 * len) (r % 2 ^ i)
    → (bit_and (r / 2 ^ i) 1 ≡ 1 → ⊥)
    → out ≡ crc_steps (8 * len) (r % 2 ^ (i + 1))
apply_more_zero len r i out so_far clear =
    let bit : bit_at r i ≡ 0 = omega (arith, shr_and_one r i, bit_at-lt r i) in
    rw (mod_more r i, bit, zero-mul, zero-add) so_far

-- the register after the run, with one bit more of the register before it
pub apply_more : (len r i c out : ℕ) → out ≡ crc_steps (8 * len) (r % 2 ^ i)
    → c ≡ crc_steps (8 * len) (2 ^ i)
    → bit_xor out (c * bit_and (r / 2 ^ i) 1) ≡ crc_steps (8 * len) (r % 2 ^ (i + 1))
apply_more len r i c out so_far column =
    elim (cases_eq (bit_and (r / 2 ^ i) 1) 1) [
      | inl set ↦ rw (set, mul-one) (apply_more_one len r i c out so_far column set)
      | inr clear ↦
          let none : bit_and (r / 2 ^ i) 1 ≡ 0 =
          omega (arith, and_le_r (r / 2 ^ i) 1, clear) in
          rw (none, mul-zero, xor_zero_r) (apply_more_zero len r i out so_far clear)
    ]

pub twice_column : (len i c out : ℕ) → c ≡ crc_steps (8 * len) (2 ^ i) → out ≡ crc_steps (8 * len) c
    → out ≡ crc_steps (8 * (2 * len)) (2 ^ i)
twice_column len i c out column is =
    let e : 8 * (2 * len) ≡ 8 * len + 8 * len = omega arith in
    is ∙ ap (crc_steps (8 * len)) column
    ∙ sym (ap (λ n. crc_steps n (2 ^ i)) e ∙ crc_steps-add (8 * len) (8 * len) (2 ^ i))

pub with_one_column : (len i c out : ℕ) → c ≡ crc_steps (8 * len) (2 ^ i) → out ≡ register_after c 0
    → out ≡ crc_steps (8 * (len + 1)) (2 ^ i)
unfolding register_after
with_one_column len i c out column is =
    let e : 8 * (len + 1) ≡ 8 * len + 8 = omega arith in
    is ∙ ap (crc_steps 8) (xor_zero_r c ∙ column)
    ∙ sym (ap (λ n. crc_steps n (2 ^ i)) e ∙ crc_steps-add (8 * len) 8 (2 ^ i))

pub fills_more : (f : ℕ → ℕ) (size : ℕ) (xs : List ℕ) (i v : ℕ) → length xs ≡ size → i < size
    → v ≡ f i
    → ((k : ℕ) → k < i → get_or xs k 0 ≡ f k)
    → (length (set xs i v) ≡ size) × ((k : ℕ) → k < i + 1 → get_or (set xs i v) k 0 ≡ f k)
fills_more f size xs i v len within is below =
    (simp length-set len, fill_more f xs i v (omega arith) is below)

-- the register after `count` zeros, with a run for each bit that is set in `count`
module _ (count r i out : ℕ) (so_far : out ≡ crc_steps (8 * (count % 2 ^ i)) r) where
  pub run_more_set : (len next : ℕ) → len ≡ 2 ^ i → next ≡ crc_steps (8 * len) out
      → bit_and (count / 2 ^ i) 1 ≡ 1 → next ≡ crc_steps (8 * (count % 2 ^ (i + 1))) r
  run_more_set len next long is set =
      let bit : bit_at count i ≡ 1 = sym (shr_and_one count i) ∙ set in
      let more = rw (bit, one-mul) at (mod_more count i) in
      let e : 8 * (count % 2 ^ i) + 8 * len ≡ 8 * (count % 2 ^ (i + 1)) =
      omega (arith, more, long) in
      is ∙ ap (crc_steps (8 * len)) so_far
      ∙ sym (crc_steps-add (8 * (count % 2 ^ i)) (8 * len) r) ∙ ap (λ n. crc_steps n r) e

  pub run_more_clear : (bit_and (count / 2 ^ i) 1 ≡ 1 → ⊥)
      → out ≡ crc_steps (8 * (count % 2 ^ (i + 1))) r
  run_more_clear clear =
      let bit : bit_at count i ≡ 0 = omega (arith, shr_and_one count i, bit_at-lt count i) in
      rw (mod_more count i, bit, zero-mul, zero-add) so_far

pub run_none : (count r : ℕ) → r ≡ crc_steps (8 * (count % 1)) r
run_none count r =
    let none : 8 * (count % 1) ≡ 0 = omega (arith, mod-one count) in
    rw none (sym (crc_steps_none r))
