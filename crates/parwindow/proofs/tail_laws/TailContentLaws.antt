-- The first bytes of a window, followed by zeros.
use Rattle.std.proofs.Common.{◌≡◌, ℕ, zero, suc, ◌+◌, ◌-◌, ◌*◌, ◌<◌, ◌≤◌, List, [], ◌∷◌, ◌++◌, length, take, get_or, replicate, refl, sym, ap, ◌∙◌, arith, append_assoc}
use Rattle.std.specs.Prelude.{All}
use Rattle.std.specs.List.{fold}
use Rattle.std.specs.Int.Bits.{bit_xor, xor_zero_r}
use Rattle.std.proofs.lemmas.List.{get_or-map, length-map, replicate-append-replicate, take_all, append-nil, take-append-drop}
use Rattle.std.proofs.lemmas.List.Sums.{fold-append}
use Rattle.parwindow.specs.Crc32.{crc_steps, register_after, register_of, crc_of}
use Rattle.parwindow.specs.FilterBits.{zeros_crc}
use Rattle.parwindow.specs.Index.{SliceSet, set_has_own_crc}
use Rattle.parwindow.specs.Tails.{is_tail_slice, tail_lengths_of, IsTail}
use Rattle.parwindow.specs.Window.{ZerosFill, zero_filled}
use Rattle.parwindow.specs.declared.tails.tail.Tail.{Tail}
use Rattle.parwindow.proofs.crc_laws.CrcLaws.{crc_steps-add}
use Rattle.parwindow.proofs.crc_laws.ZeroRunLaws.{crc_steps_none}

pub zeros_fill : ZerosFill
zeros_fill = record {
  whole = λ size bytes full.
      let none : size - size ≡ 0 = omega arith in
      rw none (append-nil (take size bytes) ∙ take_all size bytes (omega arith));
  zeros = λ size own bytes full rest. rw (← rest) (take-append-drop own bytes);
}

take-replicate : (n m : ℕ) (x : ℕ) → n ≤ m → take n (replicate m x) ≡ replicate n x
take-replicate zero m x few = refl
take-replicate (suc n) zero x few = absurd (omega arith)
take-replicate (suc n) (suc m) x few = ap (λ xs. x ∷ xs) (take-replicate n m x (omega arith))

-- after n more of the zeros, n fewer are left to be hashed
pub zeros_more : (m : List ℕ) (count left n room : ℕ) → left ≤ count → n ≤ left → n ≤ room
    → (m ++ replicate (count - left) 0) ++ take n (replicate room 0)
    ≡ m ++ replicate (count - (left - n)) 0
zeros_more m count left n room some few fits =
    let sum : count - left + n ≡ count - (left - n) = omega arith in
    rw (take-replicate n room 0 fits, append_assoc, replicate-append-replicate, sum) refl

register_after-zero : (r : ℕ) → register_after r 0 ≡ crc_steps 8 r
unfolding register_after
register_after-zero r = ap (crc_steps 8) (xor_zero_r r)

-- the register after a run of zeros is that after eight steps for each zero
fold-zeros : (n r : ℕ) → fold register_after r (replicate n 0) ≡ crc_steps (8 * n) r
fold-zeros zero r = sym (crc_steps_none r)
fold-zeros (suc n) r =
    let e : 8 * suc n ≡ 8 + 8 * n = omega arith in
    ap (λ s. fold register_after s (replicate n 0)) (register_after-zero r)
    ∙ fold-zeros n (crc_steps 8 r)
    ∙ sym (ap (λ k. crc_steps k r) e ∙ crc_steps-add 8 (8 * n) r)

-- the CRC-32 of the first bytes and zeros, computed from the register of these bytes
pub tail_crc_is : (items : List ℕ) (size own zeros r : ℕ) → r ≡ register_of (take own items)
    → own + zeros ≡ size
    → bit_xor (crc_steps (8 * zeros) r) 0xFFFFFFFF ≡ crc_of (zero_filled size own items)
unfolding crc_of register_of
tail_crc_is items size own zeros r rolled room =
    let rest : size - own ≡ zeros = omega arith in
    rw (rest, rolled)
    (ap (λ r. bit_xor r 0xFFFFFFFF)
    (sym (fold-append register_after 0xFFFFFFFF (take own items) (replicate zeros 0)
    ∙ fold-zeros zeros (fold register_after 0xFFFFFFFF (take own items)))))

-- tail k, found in the list of tails
module _ (tails : List Tail) (k size : ℕ) (content : List ℕ) (tail : Tail)
    (within : k < length (tail_lengths_of tails))
    (is : tail ≡ get_or tails k tail) where
  there : k < length tails
  there = rw length-map at within

  pub tail_length : get_or (tail_lengths_of tails) k 0 ≡ tail.length
  tail_length = get_or-map (λ (tail : Tail). tail.length) tails k tail 0 there
      ∙ ap (λ (tail : Tail). tail.length) (sym is)

  pub tail_is : All (IsTail size content) tails → IsTail size content tail
  tail_is each = rw (← is) at (each k tail there)

-- whether a slice has the tail's CRC-32, tested by its register
pub tail_slice : (set : SliceSet) (size : ℕ) (content : List ℕ) (tail : Tail)
    → IsTail size content tail
    → set_has_own_crc set (zeros_crc tail.zeros.len tail.register) tail.length
    ≡ is_tail_slice set size content tail.length
tail_slice set size content tail is =
    ap (λ crc. set_has_own_crc set crc tail.length)
    (tail_crc_is content size tail.length tail.zeros.len tail.register is.rolled is.filled)

-- a tail is shorter than the window
pub tail_fits : (tails : List Tail) (k size : ℕ) (content : List ℕ)
    → All (IsTail size content) tails → k < length tails
    → get_or (tail_lengths_of tails) k 0 ≤ size
tail_fits [] k size content each below = absurd (omega arith)
tail_fits (t ∷ ts) zero size content each below = omega (arith, (each 0 t (omega arith)).filled)
tail_fits (t ∷ ts) (suc k) size content each below =
    tail_fits ts k size content (λ j d inside. each (suc j) d (omega (arith, inside)))
    (omega (arith, below))
