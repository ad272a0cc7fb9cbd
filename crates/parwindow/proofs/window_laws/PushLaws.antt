-- A byte is pushed into a full window: its register, its content and the byte that falls out.
use Rattle.std.proofs.Common.{◌≡◌, ℕ, ◌+◌, ◌-◌, ◌*◌, ◌/◌, ◌<◌, ◌≤◌, ◌⊎◌, List, [], ◌∷◌, ◌++◌, length, drop, get_or, Option, Some, None, cond, nat_lt, nat_eq, true, false, refl, sym, ap, ◌∙◌, inl, inr, arith, length-append, length-drop}
use Rattle.std.specs.List.{slice_get}
use Rattle.std.specs.Int.Bits.{bit_and, bit_xor, xor_zero_r}
use Rattle.std.proofs.lemmas.Bool.{cases_lt, lt-ltb}
use Rattle.std.proofs.lemmas.Bool.Decides.{nat_tests}
use Rattle.circular_buffer.specs.Buffer.{keep_last}
use Rattle.parwindow.specs.Crc32.{crc_steps, register_after, register_of, removal_of}
use Rattle.parwindow.specs.Rolling.{rolled_register, pushed_register}
use Rattle.parwindow.specs.Tables.{IsStepTable, IsRemovalTable}
use Rattle.parwindow.proofs.crc_laws.TableLaws.{register_after-by}
use Rattle.parwindow.proofs.crc_laws.CrcLaws.{register_after-xor, crc_steps-add, register_of-push, register_of-removal_of}

-- the change that a first byte made in the register, after one byte more has followed
pub removal_of-more : (x n : ℕ) → crc_steps 8 (removal_of x n) ≡ removal_of x (n + 1)
unfolding removal_of
removal_of-more x n =
    let e : 8 * n + 8 ≡ 8 * (n + 1) = omega arith in
    sym (crc_steps-add (8 * n) 8 (bit_xor 0xFFFFFFFF (register_after 0xFFFFFFFF x)))
    ∙ ap (λ k. crc_steps k (bit_xor 0xFFFFFFFF (register_after 0xFFFFFFFF x))) e

pub removal_followed : (r x n : ℕ) → r ≡ removal_of x n
    → register_after r 0 ≡ removal_of x (n + 1)
unfolding register_after
removal_followed r x n is =
    ap (crc_steps 8) (xor_zero_r r ∙ is) ∙ removal_of-more x n

pub once_rolled : (n r x y : ℕ) → bit_xor (register_after r y)
    (removal_of x (n + 1)) ≡ rolled_register n r x y
unfolding rolled_register
once_rolled n r x y =
    sym (register_after-xor r (removal_of x n) y
    ∙ ap (bit_xor (register_after r y)) (removal_of-more x n))

-- the same, computed with the tables
pub once_by : (bytes once : List ℕ) (n r x y : ℕ) → IsStepTable bytes 8
    → IsRemovalTable once (n + 1) → x < 256
    → y < 256
    → bit_xor (bit_xor (r / 256) (get_or bytes (bit_and (bit_xor r y) 255) 0))
    (get_or once x 0) ≡ rolled_register n r x y
once_by bytes once n r x y steps removes small_x small_y =
    rw (register_after-by bytes r y steps small_y, removes x small_x) (once_rolled n r x y)

-- the byte that `push_back` of the ring buffer returns
abbrev pub ring_answer : List ℕ → ℕ → ℕ → Option ℕ
ring_answer items cap y = cond (nat_lt (length items) cap) None (slice_get (items ++ y ∷ []) 0)

length-push : (b : List ℕ) (y : ℕ) → length (b ++ y ∷ []) ≡ length b + 1
length-push b y = length-append b (y ∷ [])

-- a window that isn't full keeps all its bytes
pub keep_last-room : (items : List ℕ) (cap y : ℕ) → length items < cap
    → keep_last cap (items ++ y ∷ []) ≡ items ++ y ∷ []
keep_last-room items cap y less =
    let none : length (items ++ y ∷ []) - cap ≡ 0 = omega (arith, length-push items y) in
    rw none

answer-room : (items : List ℕ) (cap y : ℕ) → length items < cap → ring_answer items cap y ≡ None
answer-room items cap y less = rw (lt-ltb (length items) cap less)

-- a full window loses its first byte
pub keep_last-full : (x : ℕ) (b : List ℕ) (cap y : ℕ) → length b + 1 ≡ cap
    → keep_last cap ((x ∷ b) ++ y ∷ []) ≡ b ++ y ∷ []
keep_last-full x b cap y full =
    let one : length ((x ∷ b) ++ y ∷ []) - cap ≡ 1 = omega (arith, length-push b y) in
    rw one

answer-full : (x : ℕ) (b : List ℕ) (cap y : ℕ) → length b + 1 ≡ cap
    → ring_answer (x ∷ b) cap y ≡ Some x
answer-full x b cap y full =
    let no : nat_lt (length (x ∷ b)) cap ≡ false = grind (arith, nat_tests) in
    rw no

room_or_full : (items : List ℕ) (cap : ℕ) → length items ≤ cap → 0 < cap
    → ((length items < cap) × (nat_eq (length items) cap ≡ false))
    ⊎ ((x : ℕ) × (b : List ℕ) × (items ≡ x ∷ b) × (length b + 1 ≡ cap)
    × (nat_eq (length (x ∷ b)) cap ≡ true))
room_or_full [] cap within some = inl (omega arith, grind (arith, nat_tests))
room_or_full (x ∷ b) cap within some =
    elim (cases_lt (length (x ∷ b)) cap) [
      | inl less ↦ inl (less, grind (arith, nat_tests))
      | inr full ↦ inr (x, b, refl, omega arith, grind (arith, nat_tests))
    ]

pub ring_content : (items : List ℕ) (cap y : ℕ) → length items ≤ cap → 0 < cap
    → keep_last cap (items ++ y ∷ [])
    ≡ cond (nat_eq (length items) cap) (drop 1 (items ++ y ∷ [])) (items ++ y ∷ [])
ring_content items cap y within some =
    elim (room_or_full items cap within some) [
      | inl (less, apart) ↦ rw apart (keep_last-room items cap y less)
      | inr (x, b, e, full, same) ↦ rw (e, same) (keep_last-full x b cap y full)
    ]

pub ring_fallen : (items : List ℕ) (cap y : ℕ) → length items ≤ cap → 0 < cap
    → ring_answer items cap y ≡ cond (nat_eq (length items) cap) (slice_get items 0) None
ring_fallen items cap y within some =
    elim (room_or_full items cap within some) [
      | inl (less, apart) ↦ rw apart (answer-room items cap y less)
      | inr (x, b, e, full, same) ↦ rw (e, same) (answer-full x b cap y full)
    ]

-- the register of n bytes and a last one, computed from the register of a first byte
-- and the same n bytes
pub register_of-rolled : (b : List ℕ) (x y : ℕ)
    → register_of (b ++ y ∷ []) ≡ rolled_register (length b) (register_of (x ∷ b)) x y
unfolding rolled_register
register_of-rolled b x y =
    register_of-push b y ∙ ap (λ r. register_after r y) (register_of-removal_of b x)

-- when a byte is pushed, the register is again the register of the content
pub register_moves : (items : List ℕ) (cap n y : ℕ) → length items ≤ cap → cap ≡ n + 1
    → pushed_register n (register_of items) (ring_answer items cap y) y
    ≡ register_of (keep_last cap (items ++ y ∷ []))
register_moves items cap n y within room =
    elim (room_or_full items cap within (omega arith)) [
      | inl (less, apart) ↦ rw (answer-room items cap y less, keep_last-room items cap y less)
          (sym (register_of-push items y))
      | inr (x, b, e, full, same) ↦
          let others : n ≡ length b = omega arith in
          rw (e, others, answer-full x b cap y full, keep_last-full x b cap y full)
          (sym (register_of-rolled b x y))
    ]

pub length-keep_last : (n : ℕ) (xs : List ℕ) → length (keep_last n xs) ≤ n
length-keep_last n xs = omega (arith, length-drop (length xs - n) xs)
