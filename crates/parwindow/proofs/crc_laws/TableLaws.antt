-- The tables: each entry is its index after some steps, and a byte enters a
-- register with one look-up.
use Rattle.std.proofs.Common.{◌≡◌, ℕ, zero, suc, ◌*◌, ◌/◌, ◌%◌, ◌^◌, ◌<◌, Bool, true, List, get_or, ◌&&◌, eqb, refl, sym, ap, ◌∙◌, arith, inl, inr}
use Rattle.std.specs.Int.Bits.{bit_and, bit_xor, xor_zero_r}
use Rattle.std.proofs.lemmas.Bool.{and_parts, eqb-true, cases_lt}
use Rattle.std.proofs.lemmas.Nat.{xor_shr, and_mask, and_le_r, shr_split, mod_below, pow_pos}
use Rattle.std.proofs.Math.Nat.{pow-suc, mul_assoc, div-eq_of_lt}
use Rattle.parwindow.specs.Crc32.{crc_step, crc_steps, register_after}
use Rattle.parwindow.specs.Tables.{IsStepTable}
use Rattle.parwindow.specs.declared.crcs.table.TheConstants.{STEPPED_BYTES, STEPPED_TWICE}
use Rattle.parwindow.proofs.crc_laws.CrcLaws.{crc_step-even, crc_steps-xor, crc_steps-add, register_after-xor, in_first}
use Rattle.parwindow.proofs.crc_laws.XorLaws.{xor_parts}

-- each of the first n entries is its index after this number of steps
abbrev pub agrees_below : ℕ → List ℕ → ℕ → Bool
agrees_below steps table zero = true
agrees_below steps table (suc n) = eqb (get_or table n 0)
    (crc_steps steps n) && agrees_below steps table n

pub agrees_at : (steps : ℕ) (table : List ℕ) (n k : ℕ) → agrees_below steps table n ≡ true → k < n
    → get_or table k 0 ≡ crc_steps steps k
agrees_at steps table zero k agrees below = absurd (omega arith)
agrees_at steps table (suc n) k agrees below =
    let parts = and_parts (eqb (get_or table n 0) (crc_steps steps n)) (agrees_below steps table n)
    agrees in
    elim (cases_lt k n) [
      | inl less ↦ agrees_at steps table n k parts.1 less
      | inr not_less ↦ let last : k ≡ n =
          omega arith in rw last (eqb-true (get_or table n 0) (crc_steps steps n) parts.0)
    ]

table_agrees : agrees_below 8 STEPPED_BYTES 256 ≡ true
unfolding crc_step crc_steps
table_agrees = refl

twice_agrees : agrees_below 16 STEPPED_TWICE 256 ≡ true
unfolding crc_step crc_steps
twice_agrees = refl

-- steps of a number whose low bits are all zeros only shift it down
pub crc_steps-high : (n high : ℕ) → crc_steps n (high * 2 ^ n) ≡ high
unfolding crc_steps
crc_steps-high zero high = omega arith
crc_steps-high (suc n) high =
    let doubled : high * 2 ^ suc n ≡ high * 2 ^ n * 2 =
    rw pow-suc (sym (mul_assoc high (2 ^ n) 2)) in
    let even : high * 2 ^ suc n % 2 ≡ 0 = rw doubled (omega arith) in
    let half : high * 2 ^ suc n / 2 ≡ high * 2 ^ n = rw doubled (omega arith) in
    rw (crc_step-even (high * 2 ^ suc n) even, half) (crc_steps-high n high)

crc_steps-parts : (n r : ℕ) → crc_steps n r ≡ bit_xor (r / 2 ^ n) (crc_steps n (r % 2 ^ n))
crc_steps-parts n r =
    ap (crc_steps n) (sym (shr_split r n)
    ∙ xor_parts n (r / 2 ^ n) (r % 2 ^ n) (mod_below r (2 ^ n) (pow_pos n)))
    ∙ crc_steps-xor n (r / 2 ^ n * 2 ^ n) (r % 2 ^ n)
    ∙ ap (λ h. bit_xor h (crc_steps n (r % 2 ^ n))) (crc_steps-high n (r / 2 ^ n))

register_after-parts : (r byte : ℕ) → byte < 256
    → register_after r byte ≡ bit_xor (r / 256) (crc_steps 8 (bit_and (bit_xor r byte) 255))
unfolding register_after
register_after-parts r byte small =
    crc_steps-parts 8 (bit_xor r byte)
    ∙ ap (λ h. bit_xor h (crc_steps 8 (bit_xor r byte % 256)))
    (xor_shr r byte 8 ∙ ap (bit_xor (r / 256)) (div-eq_of_lt small) ∙ xor_zero_r (r / 256))
    ∙ ap (λ l. bit_xor (r / 256) (crc_steps 8 l)) (sym (and_mask (bit_xor r byte) 8))

pub register_after-table : (r byte : ℕ) → byte < 256
    → bit_xor (r / 256) (get_or STEPPED_BYTES (bit_and
    (bit_xor r byte) 255) 0) ≡ register_after r byte
register_after-table r byte small =
    let low : bit_and (bit_xor r byte) 255 < 256 = omega (arith, and_le_r (bit_xor r byte) 255) in
    ap (bit_xor (r / 256)) (agrees_at 8 STEPPED_BYTES 256 (bit_and (bit_xor r byte) 255)
    table_agrees low)
    ∙ sym (register_after-parts r byte small)

-- a byte enters a register with one look-up in any table of eight steps
pub register_after-by : (table : List ℕ) (r byte : ℕ) → IsStepTable table 8 → byte < 256
    → bit_xor (r / 256) (get_or table (bit_and (bit_xor r byte) 255) 0) ≡ register_after r byte
register_after-by table r byte steps small =
    let low : bit_and (bit_xor r byte) 255 < 256 = omega (arith, and_le_r (bit_xor r byte) 255) in
    ap (bit_xor (r / 256)) (steps (bit_and (bit_xor r byte) 255) low)
    ∙ sym (register_after-parts r byte small)

-- two bytes enter a register with two look-ups that don't wait for one another
pub register_after-twice : (table two : List ℕ) (r a b : ℕ) → IsStepTable table 8
    → IsStepTable two 16
    → a < 256 → b < 256
    → bit_xor (bit_xor (r / 65536) (get_or two (bit_and (bit_xor r a) 255) 0))
    (get_or table (bit_and (bit_xor (r / 256) b) 255) 0)
    ≡ register_after (register_after r a) b
register_after-twice table two r a b steps two_steps small_a small_b =
    let low : bit_and (bit_xor r a) 255 < 256 = omega (arith, and_le_r (bit_xor r a) 255) in
    let shifted : r / 65536 ≡ r / 256 / 256 = omega arith in
    sym (ap (λ s. register_after s b) (register_after-parts r a small_a)
    ∙ register_after-xor (r / 256) (crc_steps 8 (bit_and (bit_xor r a) 255)) b
    ∙ ap (λ s. bit_xor s (crc_steps 8 (crc_steps 8 (bit_and (bit_xor r a) 255))))
    (sym (register_after-by table (r / 256) b steps small_b))
    ∙ ap (λ s. bit_xor (bit_xor (r / 256 / 256) (get_or table
    (bit_and (bit_xor (r / 256) b) 255) 0)) s)
    (sym (crc_steps-add 8 8 (bit_and (bit_xor r a) 255))
    ∙ sym (two_steps (bit_and (bit_xor r a) 255) low))
    ∙ in_first (r / 256 / 256) (get_or table (bit_and (bit_xor (r / 256) b) 255) 0)
    (get_or two (bit_and (bit_xor r a) 255) 0)
    ∙ ap (λ h. bit_xor (bit_xor h (get_or two (bit_and (bit_xor r a) 255) 0))
    (get_or table (bit_and (bit_xor (r / 256) b) 255) 0)) (sym shifted))

-- the two tables in the code
pub steps_bytes : IsStepTable STEPPED_BYTES 8
steps_bytes x below = agrees_at 8 STEPPED_BYTES 256 x table_agrees below

pub steps_twice : IsStepTable STEPPED_TWICE 16
steps_twice x below = agrees_at 16 STEPPED_TWICE 256 x twice_agrees below

pub ruleset look_up = (register_after-table)
