-- The registers of tails, computed from the running registers at the offsets at which their
-- bytes begin and end.
use Rattle.std.proofs.Common.{◌≡◌, ◌≢◌, ℕ, ◌+◌, ◌-◌, ◌*◌, ◌/◌, ◌%◌, ◌^◌, ◌<◌, ◌≤◌, List, ◌++◌, true, false, Bool, length, take, drop, fold, get_or, refl, sym, ap, ◌∙◌, inl, inr, arith, length-append, length-drop, length-take, shr-shr}
use Rattle.std.specs.Int.{bit_at}
use Rattle.std.specs.Int.Bits.{bit_and, bit_xor}
use Rattle.std.proofs.lemmas.Bool.{cases_lt}
use Rattle.std.proofs.lemmas.List.Sums.{fold-append}
use Rattle.std.proofs.lemmas.Nat.Bits.{bit_at_and, bit_at-zero}
use Rattle.std.proofs.Math.Seq.{take-add}
use Rattle.parwindow.specs.Ahead.{own_register}
use Rattle.parwindow.specs.Crc32.{crc_steps, register_after, register_of}
use Rattle.parwindow.specs.LowSets.{HasLow}
use Rattle.parwindow.specs.Places.{ended_register}
use Rattle.parwindow.specs.Rolling.{StopsAt}
use Rattle.parwindow.specs.Running.{run_register, RunsOver}
use Rattle.parwindow.specs.declared.rolling.roll.Roll.{Roll}
use Rattle.parwindow.specs.declared.slices.low_sets.LowSet.{LowSet}
use Rattle.parwindow.proofs.crc_laws.CrcLaws.{fold-register_after-xor}
use Rattle.parwindow.proofs.crc_laws.XorLaws.{xor_laws}
use Rattle.parwindow.proofs.tail_laws.RollAlongLaws.{own_front}

-- if a register is in a set, the bytes that its nibbles choose have a bit in common
pub low_marked : (set : LowSet) (r low high : ℕ) → low ≡ get_or set.low (bit_and r 15) 0
    → high ≡ get_or set.high (bit_and (r / 2 ^ 4) 15) 0 → HasLow set r
    → bit_and low high ≢ 0
low_marked set r low high low_is high_is has none =
    let b : ℕ = bit_and (r / 2 ^ 8) 7 in
    let one : bit_at low b ≡ 1 = ap (λ x. bit_at x b) low_is ∙ has.0 in
    let two : bit_at high b ≡ 1 = ap (λ x. bit_at x b) high_is ∙ has.1 in
    let both : bit_at (bit_and low high) b ≡ 1 =
    bit_at_and low high b ∙ rw (one, two) refl in
    let empty : bit_at 0 b ≡ 0 = no_bit b in
    let wrong : 0 ≡ 1 = sym empty ∙ ap (λ x. bit_at x b) (sym none) ∙ both in
    absurd (omega (arith, wrong))
  where
    no_bit : (b : ℕ) → bit_at 0 b ≡ 0
    no_bit b = omega arith

given_back : (r ones : ℕ) → bit_xor ones (bit_xor r ones) ≡ r
given_back r ones = simp xor_laws

taken_out : (own z : ℕ) → bit_xor (bit_xor own z) z ≡ own
taken_out own z = simp xor_laws

-- the register of some bytes, computed from the running registers before and after them
module _ (start : ℕ) (items bytes : List ℕ) (own k : ℕ) (few : own ≤ length items)
    (within : k ≤ length bytes) where
  pub own_ended : own_register own items bytes k
      ≡ bit_xor (run_register start (items ++ bytes) (own + k))
      (crc_steps (8 * own) (bit_xor (run_register start (items ++ bytes) k) 0xFFFFFFFF))
  unfolding register_of
  own_ended =
      let all : List ℕ = items ++ bytes in
      let r : ℕ = run_register start (items ++ bytes) k in
      let mine : List ℕ = take own (drop k (items ++ bytes)) in
      let long : length (take own (drop k (items ++ bytes))) ≡ own =
      omega (arith, length-take own (drop k (items ++ bytes)), length-drop k (items ++ bytes), length-append items bytes) in
      let sum : k + own ≡ own + k = omega arith in
      let end : run_register start (items ++ bytes) (own + k)
      ≡ bit_xor (own_register own items bytes k)
      (crc_steps (8 * own) (bit_xor (run_register start (items ++ bytes) k) 0xFFFFFFFF)) =
      ap (run_register start (items ++ bytes)) (sym sum)
      ∙ ap (fold register_after start) (take-add k own (items ++ bytes))
      ∙ fold-append register_after start (take k (items ++ bytes)) mine
      ∙ ap (λ x. fold register_after x mine) (sym (given_back r 0xFFFFFFFF))
      ∙ fold-register_after-xor mine 0xFFFFFFFF (bit_xor r 0xFFFFFFFF)
      ∙ ap (λ n. bit_xor (fold register_after 0xFFFFFFFF mine) (crc_steps (8 * n) (bit_xor r 0xFFFFFFFF))) long
      ∙ ap (λ l. bit_xor (fold register_after 0xFFFFFFFF l) (crc_steps (8 * own) (bit_xor r 0xFFFFFFFF)))
      (sym (own_front items bytes own k few within)) in
      sym (ap (λ x. bit_xor x (crc_steps (8 * own) (bit_xor r 0xFFFFFFFF))) end
      ∙ taken_out (own_register own items bytes k) (crc_steps (8 * own) (bit_xor r 0xFFFFFFFF)))

-- the same at each offset after the first one
pub ended_at : (start own limit : ℕ) (items bytes registers fronts ends : List ℕ)
    → own < length items → limit ≤ length bytes → limit ≤ 512
    → RunsOver start (items ++ bytes) registers
    → ((i : ℕ) → i < 528 → 1 + i < length registers
    → get_or fronts i 0 ≡ get_or registers (1 + i) 0)
    → ((i : ℕ) → i < limit → get_or ends i 0 ≡ get_or registers (own + 1 + i) 0)
    → (k : ℕ) → 0 < k → k ≤ limit
    → ended_register own fronts ends (k - 1) ≡ own_register own items bytes k
ended_at start own limit items bytes registers fronts ends shorter within few runs front end k some below =
    let last : 1 + (k - 1) ≡ k = omega arith in
    let sum : own + 1 + (k - 1) ≡ own + k = omega arith in
    let long = length-append items bytes in
    let inside : k < length registers = omega (arith, runs.long, length-append items bytes) in
    let front_is : get_or fronts (k - 1) 0 ≡ run_register start (items ++ bytes) k =
    front (k - 1) (omega arith) (omega (arith, inside))
    ∙ ap (λ n. get_or registers n 0) last
    ∙ runs.each k (omega (arith, length-append items bytes)) in
    let end_is : get_or ends (k - 1) 0 ≡ run_register start (items ++ bytes) (own + k) =
    end (k - 1) (omega arith)
    ∙ ap (λ n. get_or registers n 0) sum
    ∙ runs.each (own + k) (omega (arith, length-append items bytes)) in
    rw (front_is, end_is) (sym (own_ended start items bytes own k (omega arith) (omega arith)))

-- a roll stops at the same point in two lists of registers that agree after the first one
pub stops_after : (Has : ℕ → Type 0) (at other : ℕ → ℕ) (n : ℕ) (s : Roll) → 0 < n
    → ((k : ℕ) → 0 < k → k ≤ n → other k ≡ at k) → StopsAt Has other n s → StopsAt Has at n s
stops_after Has at other n s some same stops =
    let moved : 0 < s.count = came (s.hit) refl in record {
      within = stops.within;
      register = stops.register ∙ same s.count moved stops.within;
      before = λ k up less. rw (← same k up (omega (arith, stops.within, less))) (stops.before k up less);
      found = λ hit. (moved, rw (← same s.count moved stops.within) (stops.found hit).1);
      ended = λ missed. (
        (stops.ended missed).0,
        λ up. rw (← same n up (omega arith)) ((stops.ended missed).1 up),
      );
    }
  where
    came : (hit : Bool) → s.hit ≡ hit → 0 < s.count
    came true is = (stops.found is).0
    came false is = omega (arith, (stops.ended is).0, some)

-- a roll stops at register i if it has the property and none before it has
pub stop_at : (Has : ℕ → Type 0) (at : ℕ → ℕ) (n i r : ℕ) → i < n
    → ((k : ℕ) → k < i → ¬ Has (at k)) → Has (at i) → r ≡ at i
    → StopsAt Has (λ k. at (k - 1)) n (record { count = i + 1; register = r; hit = true })
stop_at Has at n i r less none has is =
    let back : i + 1 - 1 ≡ i = omega arith in record {
      within = omega arith;
      register = is ∙ ap at (sym back);
      before = λ k some below. none (k - 1) (omega arith);
      found = λ _. (omega arith, rw back has);
      ended = λ wrong. cc;
    }

-- a roll that goes to the end, if no register has the property
pub stop_none : (Has : ℕ → Type 0) (at : ℕ → ℕ) (n r : ℕ) → 0 < n
    → ((k : ℕ) → k < n → ¬ Has (at k)) → r ≡ at (n - 1)
    → StopsAt Has (λ k. at (k - 1)) n (record { count = n; register = r; hit = false })
stop_none Has at n r some none is = record {
  within = omega arith;
  register = is;
  before = λ k up less. none (k - 1) (omega arith);
  found = λ wrong. cc;
  ended = λ _. (refl, λ up. none (n - 1) (omega arith));
}

-- no register below `to` has the property, if none below `at` has and none from there up to `to`
pub none_more : (Has : ℕ → Type 0) (at to : ℕ) → ((i : ℕ) → i < at → ¬ Has i)
    → ((i : ℕ) → at ≤ i → i < to → ¬ Has i) → (i : ℕ) → i < to → ¬ Has i
none_more Has at to before here i below = elim (cases_lt i at) [
  | inl early ↦ before i early
  | inr late ↦ here i late below
]

-- registers without a mark don't have the property
pub none_marked : (Has : ℕ → Type 0) (at to marks : ℕ) → to ≤ at + 16
    → ((i : ℕ) → i < 16 → Has (at + i) → bit_at marks i ≡ 1) → marks ≡ 0
    → (i : ℕ) → at ≤ i → i < to → ¬ Has i
none_marked Has at to marks few marked empty i from below has =
    let sum : at + (i - at) ≡ i = omega arith in
    let bit : bit_at marks (i - at) ≡ 1 = marked (i - at) (omega arith) (rw sum has) in
    let wrong : bit_at 0 (i - at) ≡ 1 = ap (λ x. bit_at x (i - at)) (sym empty) ∙ bit in
    absurd (omega (arith, wrong))

-- if all bits from number i on are 0, bit j is 0
pub none_left : (n i j : ℕ) → n / 2 ^ i ≡ 0 → i ≤ j → bit_at n j ≡ 0
none_left n i j none up =
    let sum : i + (j - i) ≡ j = omega arith in
    ap (bit_at n) (sym sum)
    ∙ ap (λ x. x % 2) (sym (shr-shr n i (j - i)) ∙ ap (λ x. x / 2 ^ (j - i)) none)
    ∙ bit_at-zero (j - i)

-- a register whose mark is 0 doesn't have the property
pub unmarked : (Has : ℕ → Type 0) (at marks i : ℕ) → i - at < 16 → at ≤ i
    → ((k : ℕ) → k < 16 → Has (at + k) → bit_at marks k ≡ 1) → bit_at marks (i - at) ≡ 0 → ¬ Has i
unmarked Has at marks i few from marked clear has =
    let sum : at + (i - at) ≡ i = omega arith in
    let bit : bit_at marks (i - at) ≡ 1 = marked (i - at) few (rw sum has) in
    absurd (omega (arith, clear, bit))
