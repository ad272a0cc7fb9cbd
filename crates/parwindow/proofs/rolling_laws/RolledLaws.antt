-- The register of a full window after two pushes, and after many.
use Rattle.std.proofs.Common.{◌≡◌, ℕ, zero, suc, ◌+◌, ◌*◌, ◌/◌, ◌%◌, ◌<◌, ◌≤◌, List, get_or, refl, sym, ap, ◌∙◌, arith, add-one}
use Rattle.std.specs.Int.Bits.{bit_and, bit_xor, xor_assoc}
use Rattle.std.proofs.lemmas.Nat.{and_mask, xor_mod, xor_shr}
use Rattle.parwindow.specs.Crc32.{register_after, removal_of}
use Rattle.parwindow.specs.Rolling.{rolled_register, rolled_over, with_two}
use Rattle.parwindow.specs.Tables.{IsStepTable, IsRemovalTable}
use Rattle.parwindow.proofs.crc_laws.XorLaws.{xor_laws}
use Rattle.parwindow.proofs.crc_laws.TableLaws.{register_after-twice}
use Rattle.parwindow.proofs.crc_laws.CrcLaws.{register_after-xor}
use Rattle.parwindow.proofs.window_laws.PushLaws.{removal_of-more, once_by, once_rolled}

pub twice_rolled : (n r x y u v : ℕ)
    → bit_xor (register_after (register_after r y) v)
    (bit_xor (removal_of x (n + 2)) (removal_of u (n + 1)))
    ≡ rolled_register n (rolled_register n r x y) u v
twice_rolled n r x y u v =
    let two : n + 1 + 1 ≡ n + 2 = omega arith in
    sym (sym (once_rolled n (rolled_register n r x y) u v)
    ∙ ap (λ s. bit_xor (register_after s v) (removal_of u (n + 1))) (sym (once_rolled n r x y))
    ∙ ap (λ s. bit_xor s (removal_of u (n + 1)))
    (register_after-xor (register_after r y) (removal_of x (n + 1)) v
    ∙ ap (bit_xor (register_after (register_after r y) v))
    (removal_of-more x (n + 1) ∙ ap (removal_of x) two))
    ∙ xor_assoc (register_after (register_after r y) v) (removal_of x (n + 2))
    (removal_of u (n + 1)))

moved_last : (h m t b : ℕ) → bit_xor (bit_xor (bit_xor h m) t) b
    ≡ bit_xor (bit_xor (bit_xor h t) b) m
moved_last h m t b = simp xor_laws

twice_by : (bytes two once twice : List ℕ) (n r x y u v : ℕ) → IsStepTable bytes 8
    → IsStepTable two 16
    → IsRemovalTable once (n + 1) → IsRemovalTable twice (n + 2) → x < 256 → y < 256 → u < 256
    → v < 256
    → bit_xor (bit_xor (bit_xor (r / 65536) (bit_xor (get_or twice x 0) (get_or once u 0)))
    (get_or two (bit_and (bit_xor r y) 255) 0))
    (get_or bytes (bit_and (bit_xor (r / 256) v) 255) 0)
    ≡ rolled_register n (rolled_register n r x y) u v
twice_by bytes two once twice n r x y u v steps two_steps removes two_removes x_in y_in u_in v_in =
    moved_last (r / 65536) (bit_xor (get_or twice x 0) (get_or once u 0))
    (get_or two (bit_and (bit_xor r y) 255) 0) (get_or bytes (bit_and (bit_xor (r / 256) v) 255) 0)
    ∙ rw (
      register_after-twice bytes two r y v steps two_steps y_in v_in,
      two_removes x x_in,
      removes u u_in,
    ) (twice_rolled n r x y u v)

-- what each byte of two looks up, once both are xored into a register
low_of_two : (r y v : ℕ) → bit_and (with_two r y v) 255 ≡ bit_and (bit_xor r y) 255
low_of_two r y v =
    let low : (y + 256 * v) % 256 ≡ y % 256 = omega arith in
    and_mask (bit_xor r (y + 256 * v)) 8
    ∙ xor_mod r (y + 256 * v) 8
    ∙ ap (bit_xor (r % 256)) low
    ∙ sym (xor_mod r y 8)
    ∙ sym (and_mask (bit_xor r y) 8)

next_of_two : (r y v : ℕ) → y < 256
    → bit_and (with_two r y v / 256) 255 ≡ bit_and (bit_xor (r / 256) v) 255
next_of_two r y v y_in =
    let next : (y + 256 * v) / 256 ≡ v = omega arith in
    ap (λ h. bit_and h 255) (xor_shr r (y + 256 * v) 8 ∙ ap (bit_xor (r / 256)) next)

pub once_by_two : (bytes once : List ℕ) (n r x y v : ℕ) → IsStepTable bytes 8
    → IsRemovalTable once (n + 1) → x < 256 → y < 256
    → bit_xor (bit_xor (r / 256) (get_or bytes (bit_and (with_two r y v) 255) 0))
    (get_or once x 0) ≡ rolled_register n r x y
once_by_two bytes once n r x y v steps removes x_in y_in =
    rw (low_of_two r y v) (once_by bytes once n r x y steps removes x_in y_in)

pub twice_by_two : (bytes two once twice : List ℕ) (n r x y u v : ℕ) → IsStepTable bytes 8
    → IsStepTable two 16
    → IsRemovalTable once (n + 1) → IsRemovalTable twice (n + 2) → x < 256 → y < 256 → u < 256
    → v < 256
    → bit_xor (bit_xor (bit_xor (r / 65536) (bit_xor (get_or twice x 0) (get_or once u 0)))
    (get_or two (bit_and (with_two r y v) 255) 0))
    (get_or bytes (bit_and (with_two r y v / 256) 255) 0)
    ≡ rolled_register n (rolled_register n r x y) u v
twice_by_two bytes two once twice n r x y u v steps two_steps removes two_removes x_in y_in u_in
    v_in =
    rw (low_of_two r y v, next_of_two r y v y_in)
    (twice_by bytes two once twice n r x y u v steps two_steps removes two_removes x_in y_in u_in
    v_in)

-- the register after one more byte, or two
pub rolled_over-start : (n r : ℕ) (gone come : List ℕ) → rolled_over n r gone come 0 ≡ r
unfolding rolled_over
rolled_over-start n r gone come = refl

pub rolled_over-more : (n r : ℕ) (gone come : List ℕ) (k : ℕ)
    → rolled_over n r gone come (k + 1)
    ≡ rolled_register n (rolled_over n r gone come k) (get_or gone k 0) (get_or come k 0)
unfolding rolled_over
rolled_over-more n r gone come k = rw add-one refl

pub rolled_over-once : (n r : ℕ) (gone come : List ℕ) (k now next : ℕ)
    → now ≡ rolled_over n r gone come k
    → next ≡ rolled_register n now (get_or gone k 0) (get_or come k 0)
    → next ≡ rolled_over n r gone come (k + 1)
rolled_over-once n r gone come k now next is moves =
    moves ∙ ap (λ s. rolled_register n s (get_or gone k 0) (get_or come k 0)) is
    ∙ sym (rolled_over-more n r gone come k)

pub rolled_over-twice : (n r : ℕ) (gone come : List ℕ) (k now next : ℕ)
    → now ≡ rolled_over n r gone come k
    → next ≡ rolled_register n (rolled_register n now (get_or gone k 0) (get_or come k 0))
    (get_or gone (k + 1) 0)
    (get_or come (k + 1) 0)
    → next ≡ rolled_over n r gone come (k + 2)
rolled_over-twice n r gone come k now next is moves =
    moves ∙ ap (λ s. rolled_register n s (get_or gone (k + 1) 0) (get_or come (k + 1) 0))
    (rolled_over-once n r gone come k now _ is refl)
    ∙ sym (rolled_over-more n r gone come (k + 1))
    ∙ ap (rolled_over n r gone come) (let two : k + 1 + 1 ≡ k + 2 = omega arith in two)

-- if each register of a list follows from the one before by a push, they are the
-- registers of the roll
pub rolled_over-along : (at : ℕ → ℕ) (n : ℕ) (gone come : List ℕ) (count : ℕ)
    → ((j : ℕ) → j < count → at (j + 1)
    ≡ rolled_register n (at j) (get_or gone j 0) (get_or come j 0))
    → (k : ℕ) → k ≤ count → rolled_over n (at 0) gone come k ≡ at k
rolled_over-along at n gone come count moves zero within =
    rolled_over-start n (at 0) gone come
rolled_over-along at n gone come count moves (suc k) within =
    let e : suc k ≡ k + 1 = omega arith in
    rw e (rolled_over-more n (at 0) gone come k
    ∙ ap (λ s. rolled_register n s (get_or gone k 0) (get_or come k 0))
    (rolled_over-along at n gone come count moves k (omega arith))
    ∙ sym (moves k (omega arith)))
