-- The registers of tails after bytes that are not pushed yet.
use Rattle.std.proofs.Common.{◌≡◌, ℕ, ◌+◌, ◌-◌, ◌<◌, ◌≤◌, false, IsTrue, List, ◌++◌, length, take, drop, get_or, set, min, inl, inr, refl, sym, ap, ◌∙◌, arith, length-append, length-drop, length-take, get_or-drop}
use Rattle.std.proofs.lemmas.List.{append-nil, drop-take, get_or-take, take-append-drop, take-append-le}
use Rattle.std.proofs.Math.Seq.{take-add, take-append-add}
use Rattle.std.proofs.lemmas.Bool.{cases_Bool, cases_lt}
use Rattle.parwindow.specs.Ahead.{is_tail_register, own_register, passed_of, HasPassed}
use Rattle.parwindow.specs.Crc32.{register_of}
use Rattle.parwindow.specs.Index.{SliceSet}
use Rattle.parwindow.specs.Rolling.{rolled_over, StopsAt}
use Rattle.parwindow.specs.Until.{pushed_content}
use Rattle.parwindow.specs.declared.rolling.roll.Roll.{Roll}
use Rattle.parwindow.specs.declared.tails.tail.Tail.{Tail}
use Rattle.parwindow.proofs.ListLaws.{take_fewer}
use Rattle.parwindow.proofs.rolling_laws.RollOverLaws.{stretch}
use Rattle.parwindow.proofs.rolling_laws.RollUntilLaws.{along, begins, ends, joined}

-- the first bytes of a window, after k bytes were pushed
pub own_front : (items bytes : List ℕ) (own k : ℕ) → own ≤ length items → k ≤ length bytes
    → take own (pushed_content items bytes k) ≡ take own (drop k (items ++ bytes))
own_front items bytes own k few within =
    let sum : length items + k ≡ k + length items = omega arith in
    ap (λ l. take own (drop k l)) (sym (take-append-add items bytes k)
    ∙ ap (λ n. take n (items ++ bytes)) sum)
    ∙ ap (take own) (drop-take k (length items) (items ++ bytes))
    ∙ take_fewer own (length items) (drop k (items ++ bytes)) few

-- a tail is like a window itself: its bytes leave, and the bytes after them come
own_pushed : (items bytes : List ℕ) (own k : ℕ) → own ≤ length items → k ≤ length bytes
    → pushed_content (take own items) (drop own (items ++ bytes)) k
    ≡ take own (pushed_content items bytes k)
own_pushed items bytes own k few within =
    let sum : own + k ≡ k + own = omega arith in
    ap (λ l. drop k (l ++ take k (drop own (items ++ bytes))))
    (sym (take-append-le own items bytes few))
    ∙ ap (drop k) (sym (take-add own k (items ++ bytes))
    ∙ ap (λ n. take n (items ++ bytes)) sum)
    ∙ drop-take k own (items ++ bytes)
    ∙ sym (own_front items bytes own k few within)

-- each item of a piece of a stream is in the stream, at the offset of the piece and its index
pub piece_at : (piece stream : List ℕ) (place j : ℕ) → piece ≡ take (length piece) (drop place stream)
    → j < length piece → get_or stream (place + j) 0 ≡ get_or piece j 0
piece_at piece stream place j is inside =
    sym (ap (λ l. get_or l j 0) is
    ∙ get_or-take (length piece) (drop place stream) j 0 inside
    ∙ get_or-drop place stream j 0)

-- the register of a tail rolls along a piece of the stream
pub own_rolls : (items bytes gone come : List ℕ) (own n r base count : ℕ) → n + 1 ≡ own
    → own ≤ length items → base + count ≤ length bytes
    → gone ≡ take (length gone) (drop base (items ++ bytes)) → count ≤ length gone
    → come ≡ take (length come) (drop (own + base) (items ++ bytes)) → count ≤ length come
    → r ≡ own_register own items bytes base
    → (k : ℕ) → k ≤ count
    → rolled_over n r gone come k ≡ own_register own items bytes (base + k)
own_rolls items bytes gone come own n r base count room few within goes enough comes as_many is
    k below =
    let rest : List ℕ = drop own (items ++ bytes) in
    let whole : take own items ++ drop own (items ++ bytes) ≡ items ++ bytes =
    ap (λ l. l ++ drop own (items ++ bytes)) (sym (take-append-le own items bytes few))
    ∙ take-append-drop own (items ++ bytes) in
    let long : length (take own items) ≡ n + 1 = omega (arith, length-take own items) in
    let left : base + count ≤ length (drop own (items ++ bytes)) =
    omega (arith, length-drop own (items ++ bytes), length-append items bytes) in
    let start : r ≡ register_of (pushed_content (take own items) (drop own (items ++ bytes)) base) =
    is ∙ ap register_of (sym (own_pushed items bytes own base few (omega arith))) in
    stretch (take own items) (drop own (items ++ bytes)) gone come n r base count long left
    (λ j less. ap (λ l. get_or l (base + j) 0) whole
    ∙ piece_at gone (items ++ bytes) base j goes (omega arith))
    (λ j less.
    let sum : own + (base + j) ≡ own + base + j = omega arith in
    get_or-drop own (items ++ bytes) (base + j) 0
    ∙ ap (λ m. get_or (items ++ bytes) m 0) sum
    ∙ piece_at come (items ++ bytes) (own + base) j comes (omega arith))
    start k below
    ∙ ap register_of (own_pushed items bytes own (base + k) few (omega arith))

-- a roll is also one up to the point at which it stopped
pub here_only : (Has : ℕ → Type 0) (at : ℕ → ℕ) (n : ℕ) (s : Roll) → StopsAt Has at n s
    → StopsAt Has at s.count s
here_only Has at n s stops = record {
  within = omega arith;
  register = stops.register;
  before = stops.before;
  found = stops.found;
  ended = λ missed. (
    refl,
    λ some.
        let all : s.count ≡ n = (stops.ended missed).0 in
        rw all ((stops.ended missed).1 (omega (arith, all, some))),
  );
}

-- the front of a piece is a piece
front_piece : (piece stream : List ℕ) (place most : ℕ)
    → piece ≡ take (length piece) (drop place stream) → most ≤ length piece
    → take most piece ≡ take (length (take most piece)) (drop place stream)
front_piece piece stream place most is few =
    let long : most ≡ length (take most piece) = omega (arith, length-take most piece) in
    ap (take most) is ∙ take_fewer most (length piece) (drop place stream) few
    ∙ ap (λ n. take n (drop place stream)) long

-- one stretch more, up to the point at which it stopped
pub one_stretch : (Has : ℕ → Type 0) (items bytes gone come : List ℕ) (own n most : ℕ) (a b : Roll)
    → n + 1 ≡ own → own ≤ length items → a.count + most ≤ length bytes
    → gone ≡ take (length gone) (drop a.count (items ++ bytes)) → most ≤ length gone
    → come ≡ take (length come) (drop (own + a.count) (items ++ bytes))
    → b.count ≤ most → b.count ≤ length come
    → a.hit ≡ false → StopsAt Has (own_register own items bytes) a.count a
    → StopsAt Has (rolled_over n a.register (take most gone) come) b.count b
    → StopsAt Has (own_register own items bytes) (a.count + b.count)
    (record { count = a.count + b.count; register = b.register; hit = b.hit })
one_stretch Has items bytes gone come own n most a b room few within goes inside comes fewer enough
    missed first second =
    let long : length (take most gone) ≡ most = omega (arith, length-take most gone) in
    joined Has (own_register own items bytes) a.count b.count a b missed first
    (along Has (λ k. own_register own items bytes (a.count + k))
    (rolled_over n a.register (take most gone) come) b.count b
    (own_rolls items bytes (take most gone) come own n a.register a.count b.count room few
    (omega arith) (front_piece gone (items ++ bytes) a.count most goes inside) (omega arith)
    comes enough first.register) second)

-- the roll along one piece more
pub one_piece : (Has : ℕ → Type 0) (items bytes gone come : List ℕ) (own n limit most : ℕ)
    (a b : Roll)
    → n + 1 ≡ own → own ≤ length items → limit ≤ length bytes
    → gone ≡ take (length gone) (drop a.count (items ++ bytes)) → most ≤ length gone
    → a.count + most ≤ limit
    → come ≡ take (length come) (drop (own + a.count) (items ++ bytes))
    → a.hit ≡ false → StopsAt Has (own_register own items bytes) a.count a
    → StopsAt Has (rolled_over n a.register (take most gone) come)
    (min (length (take most gone)) (length come)) b
    → (a.count + b.count ≤ limit)
    × StopsAt Has (own_register own items bytes) (a.count + b.count)
    (record { count = a.count + b.count; register = b.register; hit = b.hit })
one_piece Has items bytes gone come own n limit most a b room few within goes inside up comes
    missed first second =
    let long : length (take most gone) ≡ most = omega (arith, length-take most gone) in (
      omega (arith, second.within),
      one_stretch Has items bytes gone come own n most a b room few (omega arith) goes inside comes
          (omega (arith, second.within)) (omega (arith, second.within)) missed first
          (here_only Has (rolled_over n a.register (take most gone) come)
          (min (length (take most gone)) (length come)) b second),
    )

-- a roll that has not begun
pub own_begins : (Has : ℕ → Type 0) (items bytes : List ℕ) (own r : ℕ)
    → r ≡ register_of (take own items)
    → StopsAt Has (own_register own items bytes) 0
    (record { count = 0; register = r; hit = false })
own_begins Has items bytes own r is =
    ends Has (own_register own items bytes) r 0
    (begins Has (own_register own items bytes) r
    (is ∙ ap (λ l. register_of (take own l)) (sym (append-nil items))))

pub fewer_passed : (n passed : ℕ) (s : Roll) → s.count ≤ n → passed ≡ passed_of s → passed ≤ n
fewer_passed n passed s within is =
    elim (cases_Bool s.hit) [
      | inl hit ↦ let few : passed ≡ s.count - 1 = is ∙ rw hit refl in omega arith
      | inr missed ↦ let far : passed ≡ s.count = is ∙ rw missed refl in omega arith
    ]

-- one tail more passed all bytes, or it did not
pub tail_passed : (set : SliceSet) (content bytes : List ℕ) (old t : Tail) (limit passed : ℕ)
    (s : Roll) → t.length ≡ old.length → t.zeros.len ≡ old.zeros.len → t.ahead ≡ s.register
    → limit ≤ length bytes
    → StopsAt (λ register. IsTrue (is_tail_register set old register))
    (own_register old.length content bytes) limit s
    → passed ≡ passed_of s
    → (passed ≤ limit)
    × (passed ≡ length bytes → (limit ≡ length bytes) × HasPassed set content bytes t)
tail_passed set content bytes old t limit passed s length_is zeros_is ahead_is within stops is =
    elim (cases_Bool s.hit) [
      | inl hit ↦
          let some : 0 < s.count = (stops.found hit).0 in
          let few : passed ≡ s.count - 1 = is ∙ rw hit refl in (
            omega (arith, stops.within),
            λ all. absurd (omega (arith, stops.within)),
          )
      | inr missed ↦
          let whole : s.count ≡ limit = (stops.ended missed).0 in
          let far : passed ≡ s.count = is ∙ rw missed refl in (
            omega arith,
            λ all.
                let end : s.count ≡ length bytes = omega arith in (
                  omega arith,
                  record {
                    ahead = ahead_is ∙ stops.register
                        ∙ rw (end, length_is) refl;
                    none = λ k some few has.
                        let had : IsTrue (is_tail_register set old
                        (own_register old.length content bytes k)) =
                        rw (length_is, zeros_is) at has in
                        elim (cases_lt k s.count) [
                          | inl less ↦ stops.before k some less had
                          | inr up ↦
                              let last : k ≡ limit = omega arith in
                              (stops.ended missed).1 (omega arith) (rw last at had)
                        ];
                  },
                ),
          )
    ]
