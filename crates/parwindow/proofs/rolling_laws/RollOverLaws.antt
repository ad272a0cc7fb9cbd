-- Bytes are pushed into a full window: the register of the window after each, and the point
-- at which a roll stops.
use Rattle.std.proofs.Common.{◌≡◌, ℕ, ◌+◌, ◌-◌, ◌<◌, ◌≤◌, List, [], ◌∷◌, ◌++◌, length, take, drop, get_or, true, false, refl, sym, ap, ◌∙◌, arith, add-one, add-zero, append_assoc, length-append, length-drop, length-take, drop-cons, get_or-drop, min, nat_eq, eq-eqb}
use Rattle.std.proofs.lemmas.List.{take_more, take-append-drop, get_or_append_left, get_or-append-add, drop-append-le, append-nil, drop-drop}
use Rattle.std.specs.Int.Bits.{bit_xor}
use Rattle.parwindow.specs.Crc32.{register_after, register_of, removal_of}
use Rattle.parwindow.specs.Rolling.{rolled_register, rolled_over, StopsAt}
use Rattle.parwindow.specs.Until.{pushed_content, PushesOneByOne}
use Rattle.parwindow.specs.Window.{WindowState, content_after}
use Rattle.parwindow.specs.declared.rolling.roll.Roll.{Roll}
use Rattle.parwindow.proofs.crc_laws.CrcLaws.{register_of-push, register_of-removal_of}
use Rattle.parwindow.proofs.rolling_laws.RolledLaws.{rolled_over-along}
use Rattle.parwindow.proofs.rolling_laws.RollUntilLaws.{along, joined}

drop_one : (xs : List ℕ) (k : ℕ) → k < length xs → drop k xs ≡ get_or xs k 0 ∷ drop (k + 1) xs
drop_one xs k less = rw add-one (drop-cons xs k 0 less)

-- when one byte more comes, the first byte of the window leaves
pub window-more : (content bytes : List ℕ) (n k : ℕ) → length content ≡ n + 1 → k < length bytes
    → register_of (pushed_content content bytes (k + 1))
    ≡ rolled_register n (register_of (pushed_content content bytes k)) (get_or (content ++ bytes) k 0)
    (get_or bytes k 0)
unfolding rolled_register
window-more content bytes n k full less =
    let long : length (content ++ take k bytes) ≡ n + 1 + k =
    omega (arith, length-append content (take k bytes), length-take k bytes) in
    let one_more : content ++ take (k + 1) bytes
    ≡ (content ++ take k bytes) ++ get_or bytes k 0 ∷ [] =
    ap (λ l. content ++ l) (take_more bytes k 0 less)
    ∙ sym (append_assoc content (take k bytes) (get_or bytes k 0 ∷ [])) in
    let rest : List ℕ = drop (k + 1) (content ++ take k bytes) in
    let within : k < length (content ++ take k bytes) = omega arith in
    let goes : get_or (content ++ take k bytes) k 0 ≡ get_or (content ++ bytes) k 0 =
    sym (ap (λ l. get_or l k 0) (ap (λ l. content ++ l) (sym (take-append-drop k bytes))
    ∙ sym (append_assoc content (take k bytes) (drop k bytes)))
    ∙ get_or_append_left (content ++ take k bytes) (drop k bytes) 0 k within) in
    let first : drop k (content ++ take k bytes) ≡ get_or (content ++ bytes) k 0 ∷ drop (k + 1)
    (content ++ take k bytes) =
    drop_one (content ++ take k bytes) k within
    ∙ ap (λ x. x ∷ drop (k + 1) (content ++ take k bytes)) goes in
    let others : length (drop (k + 1) (content ++ take k bytes)) ≡ n =
    omega (arith, length-drop (k + 1) (content ++ take k bytes)) in
    ap (λ l. register_of (drop (k + 1) l)) one_more
    ∙ ap register_of (drop-append-le (k + 1) (content ++ take k bytes) (get_or bytes k 0 ∷ [])
    (omega arith))
    ∙ register_of-push (drop (k + 1) (content ++ take k bytes)) (get_or bytes k 0)
    ∙ ap (λ r. register_after r (get_or bytes k 0))
    (register_of-removal_of (drop (k + 1) (content ++ take k bytes)) (get_or (content ++ bytes) k 0)
    ∙ ap (λ m. bit_xor (register_of (get_or (content ++ bytes) k 0 ∷ drop (k + 1)
    (content ++ take k bytes)))
    (removal_of (get_or (content ++ bytes) k 0) m)) others
    ∙ ap (λ l. bit_xor (register_of l) (removal_of (get_or (content ++ bytes) k 0) n)) (sym first))

-- a stretch of the roll, from offset `base` on
pub stretch : (content bytes gone come : List ℕ) (n r base count : ℕ) → length content ≡ n + 1
    → base + count ≤ length bytes
    → ((j : ℕ) → j < count → get_or (content ++ bytes) (base + j) 0 ≡ get_or gone j 0)
    → ((j : ℕ) → j < count → get_or bytes (base + j) 0 ≡ get_or come j 0)
    → r ≡ register_of (pushed_content content bytes base)
    → (k : ℕ) → k ≤ count → rolled_over n r gone come k
    ≡ register_of (pushed_content content bytes (base + k))
stretch content bytes gone come n r base count full within goes comes is k few =
    ap (λ s. rolled_over n s gone come k) (is
    ∙ ap (λ m. register_of (pushed_content content bytes m)) (sym (add-zero base)))
    ∙ rolled_over-along (λ m. register_of (pushed_content content bytes (base + m)))
    n gone come count
    (λ j less.
    let next : base + (j + 1) ≡ base + j + 1 = omega arith in
    rw next (window-more content bytes n (base + j) full (omega arith)
    ∙ ap (λ x. rolled_register n (register_of (pushed_content content bytes (base + j))) x
    (get_or bytes (base + j) 0)) (goes j less)
    ∙ ap (λ y. rolled_register n (register_of (pushed_content content bytes (base + j)))
    (get_or gone j 0) y)
    (comes j less)))
    k few

-- first the first part of the window leaves, then the second part, and then the
-- pushed bytes themselves
pub front_goes : (front back bytes : List ℕ) (n r : ℕ) → length (front ++ back) ≡ n + 1
    → r ≡ register_of (front ++ back)
    → (k : ℕ) → k ≤ min (length front) (length bytes)
    → rolled_over n r front bytes k ≡ register_of (pushed_content (front ++ back) bytes k)
front_goes front back bytes n r full is k few =
    let same : (m : ℕ) → 0 + m ≡ m = λ m. omega arith in
    stretch (front ++ back) bytes front bytes n r 0 (min (length front) (length bytes)) full
    (omega arith)
    (λ j less. rw (same j)
    (get_or_append_left (front ++ back) bytes 0 j (omega (arith, length-append front back))
    ∙ get_or_append_left front back 0 j (omega arith)))
    (λ j less. rw (same j) refl)
    (is ∙ ap register_of (sym (append-nil (front ++ back)))) k few
    ∙ ap (λ m. register_of (pushed_content (front ++ back) bytes m)) (same k)

pub back_goes : (front back bytes : List ℕ) (n r : ℕ) → length (front ++ back) ≡ n + 1
    → length front ≤ length bytes
    → r ≡ register_of (pushed_content (front ++ back) bytes (length front))
    → (k : ℕ) → k ≤ min (length back) (length bytes - length front)
    → rolled_over n r back (drop (length front) bytes) k ≡ register_of
    (pushed_content (front ++ back) bytes (length front + k))
back_goes front back bytes n r full within is k few =
    stretch (front ++ back) bytes back (drop (length front) bytes) n r (length front)
    (min (length back) (length bytes - length front)) full (omega arith)
    (λ j less. get_or_append_left (front ++ back) bytes 0 (length front + j)
    (omega (arith, length-append front back)) ∙ get_or-append-add front back j 0)
    (λ j less. sym (get_or-drop (length front) bytes j 0))
    is k few

pub bytes_go : (content bytes : List ℕ) (n r : ℕ) → length content ≡ n + 1
    → length content ≤ length bytes
    → r ≡ register_of (pushed_content content bytes (length content))
    → (k : ℕ) → k ≤ length bytes - length content
    → rolled_over n r bytes (drop (length content) bytes) k
    ≡ register_of (pushed_content content bytes (length content + k))
bytes_go content bytes n r full within is k few =
    stretch content bytes bytes (drop (length content) bytes) n r (length content)
    (length bytes - length content) full (omega arith)
    (λ j less. get_or-append-add content bytes j 0)
    (λ j less. sym (get_or-drop (length content) bytes j 0))
    is k few

pub front_part : (Has : ℕ → Type 0) (front back bytes : List ℕ) (n r : ℕ) (s : Roll)
    → length (front ++ back) ≡ n + 1
    → r ≡ register_of (front ++ back)
    → StopsAt Has (rolled_over n r front bytes) (min (length front) (length bytes)) s
    → StopsAt Has (λ k. register_of (pushed_content (front ++ back) bytes k))
    (min (length front) (length bytes)) s
front_part Has front back bytes n r s full is stops =
    along Has (λ k. register_of (pushed_content (front ++ back) bytes k))
    (rolled_over n r front bytes)
    (min (length front) (length bytes)) s
    (front_goes front back bytes n r full is) stops

pub back_part : (Has : ℕ → Type 0) (front back bytes : List ℕ) (n : ℕ) (a b : Roll)
    → length (front ++ back) ≡ n + 1
    → StopsAt Has (λ k. register_of (pushed_content (front ++ back) bytes k))
    (min (length front) (length bytes)) a
    → a.hit ≡ false → ¬ (a.count ≡ length bytes)
    → StopsAt Has (rolled_over n a.register back (drop a.count bytes))
    (min (length back) (length (drop a.count bytes))) b
    → (a.count ≡ length front) × (length front ≤ length bytes)
    × StopsAt Has (λ k. register_of (pushed_content (front ++ back) bytes k))
    (length front + min (length back) (length bytes - length front))
    (record { count = a.count + b.count; register = b.register; hit = b.hit })
back_part Has front back bytes n a b full first missed short second =
    let whole : a.count ≡ min (length front) (length bytes) = (first.ended missed).0 in
    let least : min (length front) (length bytes) ≡ length front = omega arith in
    let there : a.count ≡ length front = omega arith in
    let within : length front ≤ length bytes = omega arith in
    let is : a.register ≡ register_of (pushed_content (front ++ back) bytes (length front)) =
    first.register ∙ ap (λ m. register_of (pushed_content (front ++ back) bytes m)) there in
    let moved = rw (there, length-drop (length front) bytes) at second in
    let first_whole = rw least at first in (
      there,
      within,
      joined Has (λ k. register_of (pushed_content (front ++ back) bytes k)) (length front)
          (min (length back) (length bytes - length front)) a b missed first_whole
          (along Has (λ k. register_of (pushed_content (front ++ back) bytes (length front + k)))
          (rolled_over n a.register back (drop (length front) bytes))
          (min (length back) (length bytes - length front)) b
          (back_goes front back bytes n a.register full within is) moved),
    )

pub bytes_part : (Has : ℕ → Type 0) (front back bytes : List ℕ) (n : ℕ) (a b : Roll)
    → length (front ++ back) ≡ n + 1
    → length front ≤ length bytes
    → StopsAt Has (λ k. register_of (pushed_content (front ++ back) bytes k))
    (length front + min (length back) (length bytes - length front)) a
    → a.hit ≡ false → ¬ (a.count ≡ length bytes)
    → StopsAt Has (rolled_over n a.register bytes (drop a.count bytes))
    (min (length bytes) (length (drop a.count bytes))) b
    → StopsAt Has (λ k. register_of (pushed_content (front ++ back) bytes k)) (length bytes)
    (record { count = a.count + b.count; register = b.register; hit = b.hit })
bytes_part Has front back bytes n a b full within before missed short third =
    let whole : a.count ≡ length front + min (length back) (length bytes - length front) =
    (before.ended missed).0 in
    let all : a.count ≡ length (front ++ back) = omega (arith, length-append front back) in
    let sum : length front + min (length back) (length bytes - length front)
    ≡ length (front ++ back) = omega arith in
    let enough : length (front ++ back) ≤ length bytes = omega arith in
    let left : min (length bytes) (length (drop (length (front ++ back)) bytes))
    ≡ length bytes - length (front ++ back) =
    omega (arith, length-drop (length (front ++ back)) bytes) in
    let is : a.register ≡ register_of (pushed_content (front ++ back) bytes (length (front ++ back)))
    = before.register ∙ ap (λ m. register_of (pushed_content (front ++ back) bytes m)) all in
    let moved = rw (all, left) at third in
    let summed = rw sum at before in
    let total : length (front ++ back) + (length bytes - length (front ++ back)) ≡ length bytes =
    omega arith in
    let result = joined Has (λ k. register_of (pushed_content (front ++ back) bytes k))
    (length (front ++ back)) (length bytes - length (front ++ back)) a b missed summed
    (along Has (λ k. register_of (pushed_content (front ++ back) bytes (length (front ++ back) + k)))
    (rolled_over n a.register bytes (drop (length (front ++ back)) bytes))
    (length bytes - length (front ++ back)) b (bytes_go (front ++ back)
    bytes n a.register full enough is) moved) in
    rw total at result

-- one more push is one more of the bytes that come
one_more : (w : WindowState) (bytes : List ℕ) (k : ℕ) → length w.content ≡ w.capacity
    → k < length bytes
    → content_after (record w { content = pushed_content w.content bytes k }) (get_or bytes k 0)
    ≡ pushed_content w.content bytes (k + 1)
one_more w bytes k full less =
    let all : List ℕ = w.content ++ take k bytes in
    let long : length (w.content ++ take k bytes) ≡ w.capacity + k =
    omega (arith, length-append w.content (take k bytes), length-take k bytes) in
    let same : length (drop k (w.content ++ take k bytes)) ≡ w.capacity =
    omega (arith, length-drop k (w.content ++ take k bytes)) in
    let yes : nat_eq (length (drop k (w.content ++ take k bytes))) w.capacity ≡ true =
    eq-eqb _ _ same in
    let within : k ≤ length (w.content ++ take k bytes) = omega arith in
    let joined_more : w.content ++ take (k + 1) bytes
    ≡ (w.content ++ take k bytes) ++ get_or bytes k 0 ∷ [] =
    ap (λ l. w.content ++ l) (take_more bytes k 0 less)
    ∙ sym (append_assoc w.content (take k bytes) (get_or bytes k 0 ∷ [])) in
    rw yes
    (ap (drop 1) (sym (drop-append-le k (w.content ++ take k bytes) (get_or bytes k 0 ∷ []) within))
    ∙ drop-drop 1 k ((w.content ++ take k bytes) ++ get_or bytes k 0 ∷ [])
    ∙ ap (drop (k + 1)) (sym joined_more))

pub pushes_one_by_one : PushesOneByOne
pushes_one_by_one = record {
  none = λ content bytes. append-nil content;
  one_more = one_more;
}
