-- A register is the xor of its eight nibbles (groups of four bits), and the register after zeros is
-- the xor of what follows from each.
use Rattle.std.proofs.Common.{◌≡◌, ℕ, ◌+◌, ◌*◌, ◌/◌, ◌%◌, ◌^◌, ◌<◌, ◌≤◌, refl, sym, ap, ◌∙◌, arith}
use Rattle.std.specs.Int.Bits.{bit_xor}
use Rattle.std.proofs.lemmas.Nat.{mod-pow-add, mod_below, pow_pos, xor_comm, xor_mod}
use Rattle.std.proofs.Math.Nat.{mod-eq_of_lt, mod-one, mul-le-mul_right}
use Rattle.std.proofs.Math.Pow.{pow_mono}
use Rattle.parwindow.specs.Crc32.{crc_steps}
use Rattle.parwindow.proofs.crc_laws.CrcLaws.{crc_steps-xor}
use Rattle.parwindow.proofs.crc_laws.XorLaws.{xor_parts}
use Rattle.parwindow.proofs.crc_laws.ZeroRunLaws.{crc_steps-nothing}

-- with no nibble, the register is 0
pub word_none : (n r : ℕ) → 0 ≡ crc_steps n (r % 2 ^ (4 * 0))
word_none n r = sym (ap (crc_steps n) (mod-one r) ∙ crc_steps-nothing n)

pub low_none : (n r : ℕ) → 0 ≡ crc_steps n (r % 2 ^ (4 * 0)) % 256
low_none n r = ap (λ x. x % 256) (word_none n r)

-- one nibble more of the register is added
pub word_more : (n r q out by : ℕ) → out ≡ crc_steps n (r % 2 ^ (4 * q))
    → by ≡ crc_steps n (r / 2 ^ (4 * q) % 16 * 2 ^ (4 * q))
    → bit_xor out by ≡ crc_steps n (r % 2 ^ (4 * (q + 1)))
word_more n r q out by so_far one =
    let high : ℕ = r / 2 ^ (4 * q) % 16 in
    let bits : 4 * (q + 1) ≡ 4 + 4 * q = omega arith in
    let parts = xor_parts (4 * q) high (r % 2 ^ (4 * q)) (mod_below r (2 ^ (4 * q)) (pow_pos (4 * q))) in
    let both : crc_steps n (r % 2 ^ (4 * (q + 1)))
    ≡ bit_xor (crc_steps n (high * 2 ^ (4 * q))) (crc_steps n (r % 2 ^ (4 * q))) =
    ap (λ k. crc_steps n (r % 2 ^ k)) bits
    ∙ ap (crc_steps n) (mod-pow-add r 4 (4 * q) ∙ parts)
    ∙ crc_steps-xor n (high * 2 ^ (4 * q)) (r % 2 ^ (4 * q)) in
    rw (so_far, one)
    (xor_comm (crc_steps n (r % 2 ^ (4 * q))) (crc_steps n (high * 2 ^ (4 * q))) ∙ sym both)

pub low_more : (n r q low by : ℕ) → low ≡ crc_steps n (r % 2 ^ (4 * q)) % 256
    → by ≡ crc_steps n (r / 2 ^ (4 * q) % 16 * 2 ^ (4 * q)) % 256
    → bit_xor low by ≡ crc_steps n (r % 2 ^ (4 * (q + 1))) % 256
low_more n r q low by so_far one =
    let out : ℕ = crc_steps n (r % 2 ^ (4 * q)) in
    let more : ℕ = crc_steps n (r / 2 ^ (4 * q) % 16 * 2 ^ (4 * q)) in
    rw (so_far, one) (sym (xor_mod out more 8) ∙ ap (λ x. x % 256) (word_more n r q out more refl refl))

-- with all eight nibbles, it is the whole register
pub word_all : (n r out : ℕ) → r < 2 ^ 32 → out ≡ crc_steps n (r % 2 ^ (4 * 8)) → out ≡ crc_steps n r
word_all n r out small is = is ∙ ap (crc_steps n) (mod-eq_of_lt small)

pub low_all : (n r low : ℕ) → r < 2 ^ 32 → low ≡ crc_steps n (r % 2 ^ (4 * 8)) % 256
    → low ≡ crc_steps n r % 256
low_all n r low small is = is ∙ ap (λ x. crc_steps n x % 256) (mod-eq_of_lt small)

-- a nibble at one of the eight positions of a register fits into 32 bits
pub nibble_small : (i : ℕ) → i < 128
    → i % 16 * 2 ^ (4 * (i / 16)) % 2 ^ 32 ≡ i % 16 * 2 ^ (4 * (i / 16))
nibble_small i below =
    let most : 2 ^ (4 * (i / 16)) ≤ 2 ^ 28 = pow_mono {i = 4 * (i / 16)} {j = 28} (omega arith) in
    mod-eq_of_lt (below_sixteen (i % 16) (2 ^ (4 * (i / 16))) (omega arith) most)
  where
    below_sixteen : (a b : ℕ) → a < 16 → b ≤ 2 ^ 28 → a * b < 2 ^ 32
    below_sixteen a b small most =
        let up : a * b ≤ 15 * b = mul-le-mul_right b (omega arith) in omega arith
