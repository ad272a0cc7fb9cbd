-- 2^32 - 1 steps change no register of 32 bits, so zeros are taken back by more zeros.
use Rattle.std.proofs.Common.{◌≡◌, ℕ, zero, suc, ◌+◌, ◌-◌, ◌*◌, ◌/◌, ◌%◌, ◌^◌, ◌<◌, ◌≤◌, refl, sym, ap, ◌∙◌, inl, inr, arith}
use Rattle.std.specs.Int.Bits.{bit_xor}
use Rattle.std.specs.Int.{bit_at}
use Rattle.std.proofs.lemmas.Bool.{cases_eq}
use Rattle.std.proofs.lemmas.Nat.{mod_below, pow_pos, pow-add, xor_comm, xor_lt}
use Rattle.std.proofs.lemmas.Nat.Bits.{bit_at-lt}
use Rattle.std.proofs.Math.Nat.{mod-eq_of_lt, mul-one, mul-zero, mod-one}
use Rattle.parwindow.specs.Crc32.{crc_step, crc_steps}
use Rattle.parwindow.proofs.crc_laws.CrcLaws.{crc_step-even, crc_step-odd, even_or_odd, crc_steps-xor, crc_steps-add}
use Rattle.parwindow.proofs.crc_laws.ZeroRunLaws.{crc_steps_none, crc_steps-nothing, mod_more}
use Rattle.parwindow.proofs.crc_laws.TableLaws.{crc_steps-high}
use Rattle.parwindow.proofs.crc_laws.XorLaws.{xor_parts}

-- a register of 32 bits has 32 bits after a step
crc_step-lt : (r : ℕ) → r < 2 ^ 32 → crc_step r < 2 ^ 32
crc_step-lt r small =
    let half : r / 2 < 2 ^ 32 = omega (arith, small) in
    let polynomial : 0xEDB88320 < 2 ^ 32 = omega arith in
    elim (even_or_odd r) [
      | inl even ↦ rw (crc_step-even r even) half
      | inr odd ↦ rw (crc_step-odd r odd) (xor_lt 32 (r / 2) 0xEDB88320 half polynomial)
    ]

pub crc_steps-lt : (n r : ℕ) → r < 2 ^ 32 → crc_steps n r < 2 ^ 32
unfolding crc_steps
crc_steps-lt zero r small = small
crc_steps-lt (suc n) r small = crc_steps-lt n (crc_step r) (crc_step-lt r small)

-- m steps and n steps may be taken in either order
swapped : (m n r : ℕ) → crc_steps m (crc_steps n r) ≡ crc_steps n (crc_steps m r)
swapped m n r =
    let e : n + m ≡ m + n = omega arith in
    sym (crc_steps-add n m r) ∙ ap (λ k. crc_steps k r) e ∙ crc_steps-add m n r

one_last : (n r : ℕ) → crc_step (crc_steps n r) ≡ crc_steps (n + 1) r
unfolding crc_steps
one_last n r = sym (crc_steps-add n 1 r)

one_first : (n r : ℕ) → crc_steps n (crc_step r) ≡ crc_steps (n + 1) r
unfolding crc_steps
one_first n r =
    let e : 1 + n ≡ n + 1 = omega arith in
    sym (crc_steps-add 1 n r) ∙ ap (λ k. crc_steps k r) e

-- the steps of a register times a bit, which is the register or 0
times_bit : (n r bit : ℕ) → bit < 2 → crc_steps n (r * bit) ≡ crc_steps n r * bit
times_bit n r bit small = elim (cases_eq bit 1) [
  | inl set ↦ rw set (ap (crc_steps n) (mul-one r) ∙ sym (mul-one (crc_steps n r)))
  | inr clear ↦
      let none : bit ≡ 0 = omega (arith, small, clear) in
      rw none (ap (crc_steps n) (mul-zero r) ∙ crc_steps-nothing n
      ∙ sym (mul-zero (crc_steps n r)))
]

-- the steps of a number, with one bit more of it
bit_more : (n b i : ℕ) → crc_steps n (b % 2 ^ (i + 1))
    ≡ bit_xor (crc_steps n (b % 2 ^ i)) (crc_steps n (2 ^ i) * bit_at b i)
bit_more n b i =
    let bit : ℕ = bit_at b i in
    let turned : bit_at b i * 2 ^ i ≡ 2 ^ i * bit_at b i = omega arith in
    ap (crc_steps n) (mod_more b i
    ∙ xor_parts i (bit_at b i) (b % 2 ^ i) (mod_below b (2 ^ i) (pow_pos i))
    ∙ xor_comm (bit_at b i * 2 ^ i) (b % 2 ^ i)
    ∙ ap (bit_xor (b % 2 ^ i)) turned)
    ∙ crc_steps-xor n (b % 2 ^ i) (2 ^ i * bit_at b i)
    ∙ ap (bit_xor (crc_steps n (b % 2 ^ i))) (times_bit n (2 ^ i) (bit_at b i) (bit_at-lt b i))

-- a single bit is the highest bit after some steps, so the same holds for it after n more
from_highest : (n i : ℕ) → i < 32 → crc_steps n (2 ^ i) ≡ crc_steps (31 - i) (crc_steps n (2 ^ 31))
from_highest n i below =
    let e : 31 ≡ i + (31 - i) = omega (arith, below) in
    ap (crc_steps n) (sym (ap (crc_steps (31 - i)) (ap (λ k. 2 ^ k) e ∙ pow-add 2 i (31 - i))
    ∙ crc_steps-high (31 - i) (2 ^ i)))
    ∙ swapped n (31 - i) (2 ^ 31)

-- the product of two registers as polynomials, for the first bits of the second one
product : ℕ → ℕ → ℕ → ℕ
product a b zero = 0
product a b (suc i) = bit_xor (crc_step (product a b i)) (a * bit_at b i)

product_is : (n a b i : ℕ) → a ≡ crc_steps n (2 ^ 31) → i ≤ 32
    → crc_steps (32 - i) (product a b i) ≡ crc_steps n (b % 2 ^ i)
unfolding product
product_is n a b zero is few =
    crc_steps-nothing 32 ∙ sym (ap (crc_steps n) (mod-one b) ∙ crc_steps-nothing n)
product_is n a b (suc i) is few =
    let next : suc i ≡ i + 1 = omega arith in
    let rest : 32 - suc i ≡ 31 - i = omega arith in
    let back : 31 - i + 1 ≡ 32 - i = omega (arith, few) in
    rw (rest, next)
    (crc_steps-xor (31 - i) (crc_step (product a b i)) (a * bit_at b i)
    ∙ ap (λ x. bit_xor x (crc_steps (31 - i) (a * bit_at b i)))
    (one_first (31 - i) (product a b i) ∙ ap (λ k. crc_steps k (product a b i)) back
    ∙ product_is n a b i is (omega (arith, few)))
    ∙ ap (bit_xor (crc_steps n (b % 2 ^ i)))
    (times_bit (31 - i) a (bit_at b i) (bit_at-lt b i)
    ∙ ap (λ x. x * bit_at b i) (ap (crc_steps (31 - i)) is ∙ sym (from_highest n i (omega (
      arith,
      few,
    )))))
    ∙ sym (bit_more n b i))

-- the highest bit of a register, after 2^k - 1 steps
highest_after : ℕ → ℕ
highest_after zero = 2 ^ 31
highest_after (suc k) = crc_step (product (highest_after k) (highest_after k) 32)

highest_is : (k : ℕ) → highest_after k ≡ crc_steps (2 ^ k - 1) (2 ^ 31)
unfolding highest_after
highest_is zero = sym (crc_steps_none (2 ^ 31))
highest_is (suc k) =
    let h : ℕ = highest_after k in
    let n : ℕ = 2 ^ k - 1 in
    let highest : 2 ^ 31 < 2 ^ 32 = omega arith in
    let small : highest_after k < 2 ^ 32 = rw (highest_is k) (crc_steps-lt (2 ^ k - 1) (2 ^ 31)
    highest) in
    let some : 0 < 2 ^ k = pow_pos k in
    let double : 2 ^ k - 1 + (2 ^ k - 1) + 1 ≡ 2 ^ suc k - 1 = omega (arith, some) in
    ap crc_step (sym (crc_steps_none (product (highest_after k) (highest_after k) 32))
    ∙ product_is (2 ^ k - 1) (highest_after k) (highest_after k) 32 (highest_is k) (omega arith)
    ∙ ap (crc_steps (2 ^ k - 1)) (mod-eq_of_lt small ∙ highest_is k)
    ∙ sym (crc_steps-add (2 ^ k - 1) (2 ^ k - 1) (2 ^ 31)))
    ∙ one_last (2 ^ k - 1 + (2 ^ k - 1)) (2 ^ 31)
    ∙ ap (λ m. crc_steps m (2 ^ 31)) double

comes_round : highest_after 32 ≡ 2 ^ 31
unfolding crc_step highest_after product
comes_round = refl

-- since the highest bit returns after 2^32 - 1 steps, each register does
bits_turn : (r i : ℕ) → i ≤ 32 → crc_steps 0xFFFFFFFF (r % 2 ^ i) ≡ r % 2 ^ i
bits_turn r zero few =
    ap (crc_steps 0xFFFFFFFF) (mod-one r) ∙ crc_steps-nothing 0xFFFFFFFF ∙ sym (mod-one r)
bits_turn r (suc i) few =
    let next : suc i ≡ i + 1 = omega arith in
    let highest : crc_steps 0xFFFFFFFF (2 ^ 31) ≡ 2 ^ 31 = sym (highest_is 32) ∙ comes_round in
    let bit : crc_steps 0xFFFFFFFF (2 ^ i) ≡ crc_steps 0 (2 ^ i) =
    from_highest 0xFFFFFFFF i (omega (arith, few))
    ∙ ap (crc_steps (31 - i)) (highest ∙ sym (crc_steps_none (2 ^ 31)))
    ∙ sym (from_highest 0 i (omega (arith, few))) in
    rw next
    (bit_more 0xFFFFFFFF r i
    ∙ ap (λ x. bit_xor x (crc_steps 0xFFFFFFFF (2 ^ i) * bit_at r i))
    (bits_turn r i (omega (arith, few)) ∙ sym (crc_steps_none (r % 2 ^ i)))
    ∙ ap (λ x. bit_xor (crc_steps 0 (r % 2 ^ i)) (x * bit_at r i)) bit
    ∙ sym (bit_more 0 r i) ∙ crc_steps_none (r % 2 ^ (i + 1)))

turns : (r : ℕ) → r < 2 ^ 32 → crc_steps 0xFFFFFFFF r ≡ r
turns r small =
    ap (crc_steps 0xFFFFFFFF) (sym (mod-eq_of_lt small)) ∙ bits_turn r 32 (omega arith)
    ∙ mod-eq_of_lt small

turns_often : (k r : ℕ) → r < 2 ^ 32 → crc_steps (0xFFFFFFFF * k) r ≡ r
turns_often zero r small = crc_steps_none r
turns_often (suc k) r small =
    let e : 0xFFFFFFFF * suc k ≡ 0xFFFFFFFF + 0xFFFFFFFF * k = omega arith in
    ap (λ n. crc_steps n r) e ∙ crc_steps-add 0xFFFFFFFF (0xFFFFFFFF * k) r
    ∙ ap (crc_steps (0xFFFFFFFF * k)) (turns r small) ∙ turns_often k r small

-- zeros are taken back by appending the number of zeros that are missing to 2^32 - 1
pub taken_back : (zeros r t : ℕ) → r < 2 ^ 32 → zeros ≤ 0xFFFFFFFF
    → crc_steps (8 * zeros) r ≡ t → crc_steps (8 * (0xFFFFFFFF - zeros)) t ≡ r
taken_back zeros r t small few is =
    let whole : 8 * zeros + 8 * (0xFFFFFFFF - zeros) ≡ 0xFFFFFFFF * 8 = omega (arith, few) in
    ap (crc_steps (8 * (0xFFFFFFFF - zeros))) (sym is)
    ∙ sym (crc_steps-add (8 * zeros) (8 * (0xFFFFFFFF - zeros)) r)
    ∙ ap (λ n. crc_steps n r) whole ∙ turns_often 8 r small
