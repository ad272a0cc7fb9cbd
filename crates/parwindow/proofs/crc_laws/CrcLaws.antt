-- The steps of a CRC-32 register are linear over xor, so a first byte can be taken out of it.
use Rattle.std.proofs.Common.{◌≡◌, ◌⊎◌, ℕ, zero, suc, ◌+◌, ◌*◌, ◌/◌, ◌%◌, List, [], ◌∷◌, ◌++◌, length, refl, sym, ap, ◌∙◌, inl, inr, arith}
use Rattle.std.specs.List.{fold}
use Rattle.std.specs.Int.Bits.{bit_xor}
use Rattle.std.proofs.lemmas.List.Sums.{fold_push}
use Rattle.std.proofs.Math.Nat.{zero-add, suc-add}
use Rattle.parwindow.specs.Crc32.{crc_step, crc_steps, register_after, register_of, crc_of, removal_of, rolled_crc_of, CrcRolls}
use Rattle.parwindow.proofs.crc_laws.XorLaws.{xor_laws, xor_half, xor_odd}

pub even_or_odd : (n : ℕ) → (n % 2 ≡ 0) ⊎ (n % 2 ≡ 1)
even_or_odd n = grind arith

pub crc_step-even : (r : ℕ) → r % 2 ≡ 0 → crc_step r ≡ r / 2
unfolding crc_step
crc_step-even r even = rw even

pub crc_step-odd : (r : ℕ) → r % 2 ≡ 1 → crc_step r ≡ bit_xor (r / 2) 0xEDB88320
unfolding crc_step
crc_step-odd r odd = rw odd

pub in_first : (a b p : ℕ) → bit_xor (bit_xor a b) p ≡ bit_xor (bit_xor a p) b
in_first a b p = simp xor_laws

in_second : (a b p : ℕ) → bit_xor (bit_xor a b) p ≡ bit_xor a (bit_xor b p)
in_second a b p = simp xor_laws

in_both : (a b p : ℕ) → bit_xor a b ≡ bit_xor (bit_xor a p) (bit_xor b p)
in_both a b p = simp xor_laws

pub crc_step-xor : (a b : ℕ) → crc_step (bit_xor a b) ≡ bit_xor (crc_step a) (crc_step b)
crc_step-xor a b =
    elim (even_or_odd a) [
      | inl p ↦ elim (even_or_odd b) [
        | inl q ↦
            rw (
              crc_step-even a p,
              crc_step-even b q,
              crc_step-even (bit_xor a b)
                  (rw (xor_odd, p, q)),
            ) (xor_half a b)
        | inr q ↦
            rw (
              crc_step-even a p,
              crc_step-odd b q,
              crc_step-odd (bit_xor a b)
                  (rw (xor_odd, p, q)),
              xor_half,
            )
            (in_second (a / 2) (b / 2) 0xEDB88320)
      ]
      | inr p ↦ elim (even_or_odd b) [
        | inl q ↦
            rw (
              crc_step-odd a p,
              crc_step-even b q,
              crc_step-odd (bit_xor a b)
                  (rw (xor_odd, p, q)),
              xor_half,
            )
            (in_first (a / 2) (b / 2) 0xEDB88320)
        | inr q ↦
            rw (
              crc_step-odd a p,
              crc_step-odd b q,
              crc_step-even (bit_xor a b)
                  (rw (xor_odd, p, q)),
              xor_half,
            )
            (in_both (a / 2) (b / 2) 0xEDB88320)
      ]
    ]

pub crc_steps-xor : (n a b : ℕ) → crc_steps n (bit_xor a b)
    ≡ bit_xor (crc_steps n a) (crc_steps n b)
unfolding crc_steps
crc_steps-xor zero a b = refl
crc_steps-xor (suc n) a b = rw crc_step-xor (crc_steps-xor n (crc_step a) (crc_step b))

pub crc_steps-add : (m n r : ℕ) → crc_steps (m + n) r ≡ crc_steps n (crc_steps m r)
unfolding crc_steps
crc_steps-add zero n r = rw zero-add
crc_steps-add (suc m) n r = rw suc-add (crc_steps-add m n (crc_step r))

pub register_after-xor : (a d byte : ℕ)
    → register_after (bit_xor a d) byte ≡ bit_xor (register_after a byte) (crc_steps 8 d)
unfolding register_after
register_after-xor a d byte = rw (in_first a d byte) (crc_steps-xor 8 (bit_xor a byte) d)

one_byte_first : (n d : ℕ) → crc_steps (8 * suc n) d ≡ crc_steps (8 * n) (crc_steps 8 d)
one_byte_first n d =
    let e : 8 * suc n ≡ 8 + 8 * n = omega arith in
    ap (λ k. crc_steps k d) e ∙ crc_steps-add 8 (8 * n) d

-- if two registers differ by d and take the same bytes, they differ afterwards by d after the
-- same number of steps
pub fold-register_after-xor : (bytes : List ℕ) (a d : ℕ)
    → fold register_after (bit_xor a d) bytes
    ≡ bit_xor (fold register_after a bytes) (crc_steps (8 * length bytes) d)
unfolding crc_steps
fold-register_after-xor [] a d = refl
fold-register_after-xor (x ∷ xs) a d =
    rw (register_after-xor a d x, one_byte_first (length xs) d)
    (fold-register_after-xor xs (register_after a x) (crc_steps 8 d))

pub register_of-push : (bytes : List ℕ) (last : ℕ)
    → register_of (bytes ++ last ∷ []) ≡ register_after (register_of bytes) last
unfolding register_of
register_of-push bytes last = fold_push register_after 0xFFFFFFFF bytes last

two_changes : (start changed : ℕ) → bit_xor changed (bit_xor start changed) ≡ start
two_changes start changed = simp xor_laws

-- the register of bytes, computed from the register of the same bytes after a first one
pub register_of-removal_of : (bytes : List ℕ) (first : ℕ)
    → register_of bytes ≡ bit_xor (register_of (first ∷ bytes)) (removal_of first (length bytes))
unfolding register_of removal_of
register_of-removal_of bytes first =
    ap (λ r. fold register_after r bytes) (sym (two_changes 0xFFFFFFFF
    (register_after 0xFFFFFFFF first)))
    ∙ fold-register_after-xor bytes (register_after 0xFFFFFFFF first)
    (bit_xor 0xFFFFFFFF (register_after 0xFFFFFFFF first))

inverted_twice : (r ones : ℕ) → bit_xor (bit_xor r ones) ones ≡ r
inverted_twice r ones = simp xor_laws

pub crc_rolls : CrcRolls
unfolding crc_of rolled_crc_of
crc_rolls bytes first last =
    let undone = inverted_twice (register_of (first ∷ bytes)) 0xFFFFFFFF in
    rw (register_of-push bytes last, register_of-removal_of bytes first, undone) refl
