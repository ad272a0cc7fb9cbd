-- Bytes are pushed into a full window that is at a slice after none of them.
use Rattle.std.proofs.Common.{◌≡◌, ℕ, ◌-◌, ◌<◌, ◌≤◌, false, IsTrue, List, [], ◌∷◌, ◌++◌, length, drop, inl, inr, refl, sym, ap, ◌∙◌, arith, length-append}
use Rattle.std.specs.Prelude.{All}
use Rattle.std.specs.List.{list_any}
use Rattle.std.proofs.lemmas.Bool.{cases_Bool, cases_lt, false_from_ne_true}
use Rattle.std.proofs.lemmas.List.{take_all}
use Rattle.std.proofs.lemmas.List.Elements.{All-tail}
use Rattle.circular_buffer.specs.Buffer.{keep_last}
use Rattle.parwindow.specs.Ahead.{own_register, passed_of, HasPassed, IsAhead}
use Rattle.parwindow.specs.Crc32.{crc_of, register_of}
use Rattle.parwindow.specs.Index.{SliceSet, set_has_own_crc}
use Rattle.parwindow.specs.Rolling.{HasRegister, StopsAt}
use Rattle.parwindow.specs.Tails.{is_tail_slice, tail_lengths_of, some_tail_slice, IsTail}
use Rattle.parwindow.specs.Until.{is_at_slice, pushed_content, pushed_window}
use Rattle.parwindow.specs.Window.{WindowState}
use Rattle.parwindow.specs.declared.rolling.roll.Roll.{Roll}
use Rattle.parwindow.specs.declared.tails.tail.Tail.{Tail}
use Rattle.parwindow.proofs.tail_laws.TailContentLaws.{tail_crc_is}

-- the ring buffer has the pushed content after it took all bytes at once
pub pushed_all : (items bytes : List ℕ) (cap : ℕ) → length items ≡ cap
    → keep_last cap (items ++ bytes) ≡ pushed_content items bytes (length bytes)
pushed_all items bytes cap full =
    let gone : length (items ++ bytes) - cap ≡ length bytes =
    omega (arith, length-append items bytes) in
    rw gone (ap (λ l. drop (length bytes) (items ++ l))
    (sym (take_all (length bytes) bytes (omega arith))))

-- a roll that passed all bytes stopped at no register
pub all_passed : (Has : ℕ → Type 0) (at : ℕ → ℕ) (n : ℕ) (s : Roll) → StopsAt Has at n s
    → n ≤ passed_of s
    → (s.register ≡ at n) × ((k : ℕ) → 0 < k → k ≤ n → ¬ Has (at k))
all_passed Has at n s stops far =
    elim (cases_Bool s.hit) [
      | inl hit ↦
          let some : 0 < s.count = (stops.found hit).0 in
          let few : n ≤ s.count - 1 = rw hit at far in
          absurd (omega (arith, stops.within))
      | inr missed ↦
          let all : s.count ≡ n = (stops.ended missed).0 in (
            stops.register ∙ ap at all,
            λ k some few. elim (cases_lt k n) [
              | inl less ↦ stops.before k some (omega arith)
              | inr up ↦
                  let last : k ≡ n = omega arith in rw last ((stops.ended missed).1 (omega arith))
            ],
          )
    ]

pub are_ahead : (set : SliceSet) (content bytes : List ℕ) (tails : List Tail)
    → All (HasPassed set content bytes) tails
    → All (IsAhead (pushed_content content bytes (length bytes))) tails
are_ahead set content bytes tails past k d below = (past k d below).ahead

-- if all tails have passed the bytes, no tail is at a slice after any of them
pub no_tail : (set : SliceSet) (size k : ℕ) (content bytes : List ℕ) (tails : List Tail)
    → All (IsTail size content) tails → All (HasPassed set content bytes) tails
    → 0 < k → k ≤ length bytes
    → list_any (is_tail_slice set size (pushed_content content bytes k)) (tail_lengths_of tails) ≡ false
no_tail set size k content bytes [] are past some few = refl
no_tail set size k content bytes (t ∷ ts) are past some few =
    let is = are 0 t (omega arith) in
    let same = ap (λ crc. set_has_own_crc set crc t.length)
    (tail_crc_is (pushed_content content bytes k) size t.length t.zeros.len
    (own_register t.length content bytes k) refl is.filled) in
    let no : is_tail_slice set size (pushed_content content bytes k) t.length ≡ false =
    false_from_ne_true (is_tail_slice set size (pushed_content content bytes k) t.length)
    (λ yes. (past 0 t (omega arith)).none k some few (same ∙ yes)) in
    rw no (no_tail set size k content bytes ts (All-tail (IsTail size content) t ts are)
    (All-tail (HasPassed set content bytes) t ts past) some few)

-- so the window isn't at a slice either
pub not_at_slice : (set : SliceSet) (w : WindowState) (bytes : List ℕ) (k : ℕ)
    → ¬ IsTrue (some_tail_slice set w.capacity (pushed_content w.content bytes k) w.tails)
    → ¬ HasRegister set (register_of (pushed_content w.content bytes k))
    → ¬ IsTrue (is_at_slice set (pushed_window w bytes k))
unfolding crc_of
not_at_slice set w bytes k tails main hit =
    let none = false_from_ne_true (some_tail_slice set w.capacity
    (pushed_content w.content bytes k) w.tails) tails in
    main (rw none at hit)
