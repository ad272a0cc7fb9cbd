-- The point at which pushes into a full window stop.
use Rattle.std.proofs.Common.{◌≡◌, ℕ, ◌+◌, ◌<◌, ◌≤◌, true, false, List, [], length, ◌++◌, take, drop, get_or, append_assoc, ◌-◌, refl, sym, ap, ◌∙◌, inl, inr, arith, IsTrue, length-append, length-drop, length-take}
use Rattle.std.proofs.lemmas.Bool.{cases_Bool, cases_lt}
use Rattle.std.proofs.lemmas.List.{drop-append-le, drop-drop}
use Rattle.std.proofs.Math.Seq.{take-add}
use Rattle.circular_buffer.specs.Buffer.{keep_last}
use Rattle.parwindow.specs.Ahead.{PushesPast}
use Rattle.parwindow.specs.Crc32.{crc_of, register_of}
use Rattle.parwindow.specs.Index.{SliceSet}
use Rattle.parwindow.specs.Rolling.{HasRegister, StopsAt}
use Rattle.parwindow.specs.Until.{NoTails, PushesUntil, is_at_slice, pushed_content, pushed_window}
use Rattle.parwindow.specs.Window.{WindowState, content_after}
use Rattle.parwindow.specs.declared.rolling.roll.Roll.{Roll}
use Rattle.parwindow.proofs.ListLaws.{take_fewer}
use Rattle.parwindow.proofs.rolling_laws.RollOverLaws.{pushes_one_by_one}

pub no_tails : NoTails
no_tails set w none = rw none refl

-- the content of a full ring buffer after it took the first k bytes at once
pub keep_last-some : (items bytes : List ℕ) (cap k : ℕ) → length items ≡ cap → k ≤ length bytes
    → keep_last cap (items ++ take k bytes) ≡ pushed_content items bytes k
keep_last-some items bytes cap k full few =
    let gone : length (items ++ take k bytes) - cap ≡ k =
    omega (arith, length-append items (take k bytes), length-take k bytes) in
    rw gone refl

-- the pushes into a window without tails stop at the point at which the roll stops
pub pushes_until : (set : SliceSet) (w : WindowState) (bytes : List ℕ) (s : Roll) → w.tails ≡ []
    → StopsAt (HasRegister set) (λ k. register_of (pushed_content w.content bytes k)) (length bytes) s
    → PushesUntil set w bytes s.count
unfolding crc_of
pushes_until set w bytes s none stops = record {
  within = stops.within;
  before = λ k some less. rw none (stops.before k some less);
  stops = λ early. elim (cases_Bool s.hit) [
    | inl hit ↦ ((stops.found hit).0, rw none ((stops.found hit).1))
    | inr missed ↦ let all : s.count ≡ length bytes = (stops.ended missed).0 in absurd (omega arith)
  ];
}

-- the window after k bytes were pushed one after another, if it was at a slice after none of them
pub record PushedSoFar (set : SliceSet) (w : WindowState) (bytes : List ℕ) (k : ℕ)
    (now : WindowState) : Type 0 where
  pub here : now ≡ pushed_window w bytes k
  pub full : length now.content ≡ now.capacity
  pub none : (j : ℕ) → 0 < j → j ≤ k → ¬ IsTrue (is_at_slice set (pushed_window w bytes j))

length_pushed : (content bytes : List ℕ) (k : ℕ) → k ≤ length bytes
    → length (pushed_content content bytes k) ≡ length content
length_pushed content bytes k few =
    omega (
      arith,
      length-drop k (content ++ take k bytes),
      length-append content (take k bytes),
      length-take k bytes,
    )

module _ (set : SliceSet) (w : WindowState) (bytes : List ℕ) (k : ℕ) (now after : WindowState)
    (full : length w.content ≡ w.capacity) (so_far : PushedSoFar set w bytes k now)
    (less : k < length bytes)
    (is : after ≡ record now { content = content_after now (get_or bytes k 0) }) where
  pub pushed_here : after ≡ pushed_window w bytes (k + 1)
  pushed_here =
      is ∙ ap (λ (x : WindowState). record x { content = content_after x (get_or bytes k 0) })
      so_far.here
      ∙ ap (λ xs. record w { content = xs }) (pushes_one_by_one.one_more w bytes k full less)

  pub pushed_full : length after.content ≡ after.capacity
  pushed_full =
      rw pushed_here (length_pushed w.content bytes (k + 1) (omega (arith, less)) ∙ full)

  -- it was at a slice after no byte before, and is at one now
  pub pushed_until : is_at_slice set after ≡ true → PushesUntil set w bytes (k + 1)
  pushed_until hit = record {
    within = omega (arith, less);
    before = λ j some few. so_far.none j some (omega (arith, few));
    stops = λ early. (omega arith, rw pushed_here at hit);
  }

  -- it isn't at a slice
  pub pushed_more : is_at_slice set after ≡ false → PushedSoFar set w bytes (k + 1) after
  pushed_more miss = record {
    here = pushed_here;
    full = pushed_full;
    none = λ j some few. elim (cases_lt j (k + 1)) [
      | inl early ↦ so_far.none j some (omega (arith, early))
      | inr up ↦ λ hit.
          let last : j ≡ k + 1 = omega (arith, few, up) in
          let there : is_at_slice set after ≡ true = rw pushed_here (rw last at hit) in
          let wrong : true ≡ false = sym there ∙ miss in cc
    ];
  }

-- pushing the first bytes and then some of a piece after them is pushing them all
more_pushed : (content bytes piece : List ℕ) (done n : ℕ) → done ≤ length bytes
    → piece ≡ take (length piece) (drop done bytes) → n ≤ length piece
    → pushed_content (pushed_content content bytes done) piece n ≡ pushed_content content bytes (done + n)
more_pushed content bytes piece done n few is within =
    let inside : done ≤ length (content ++ take done bytes) =
    omega (arith, length-append content (take done bytes), length-take done bytes) in
    let front : take n piece ≡ take n (drop done bytes) =
    ap (take n) is ∙ take_fewer n (length piece) (drop done bytes) within in
    ap (drop n) (sym (drop-append-le done (content ++ take done bytes) (take n piece) inside))
    ∙ drop-drop n done ((content ++ take done bytes) ++ take n piece)
    ∙ ap (drop (done + n)) (append_assoc content (take done bytes) (take n piece)
    ∙ ap (λ l. content ++ l) (ap (λ l. take done bytes ++ l) front ∙ sym (take-add done n bytes)))

-- all bytes of a piece were pushed, and the window was at a slice after none of them
pub pushed_past : (set : SliceSet) (w now after : WindowState) (bytes piece : List ℕ) (done : ℕ)
    → length w.content ≡ w.capacity → PushedSoFar set w bytes done now
    → done + length piece ≤ length bytes → piece ≡ take (length piece) (drop done bytes)
    → PushesPast set now piece after → PushedSoFar set w bytes (done + length piece) after
pushed_past set w now after bytes piece done full so_far within is past =
    let moves : (n : ℕ) → n ≤ length piece
    → pushed_window now piece n ≡ pushed_window w bytes (done + n) =
    λ n few.
    ap (λ (x : WindowState). pushed_window x piece n) so_far.here
    ∙ ap (λ xs. record w { content = xs })
    (more_pushed w.content bytes piece done n (omega arith) is few) in
    let here : after ≡ pushed_window w bytes (done + length piece) =
    past.all ∙ moves (length piece) (omega arith) in
    record {
      here = here;
      full = rw here (length_pushed w.content bytes (done + length piece) within ∙ full);
      none = λ j some few hit. elim (cases_lt done j) [
        | inl more ↦
            let sum : done + (j - done) ≡ j = omega arith in
            let same : pushed_window now piece (j - done) ≡ pushed_window w bytes j =
            moves (j - done) (omega arith) ∙ ap (pushed_window w bytes) sum in
            past.none (j - done) (omega arith) (omega arith)
            (ap (is_at_slice set) same ∙ hit)
        | inr early ↦ so_far.none j some early hit
      ];
    }

-- the first m of the bytes that are left are a piece of them
pub piece_of : (bytes : List ℕ) (done m : ℕ) → m ≤ length bytes - done
    → (length (take m (take (length bytes - done) (drop done bytes))) ≡ m)
    × (take m (take (length bytes - done) (drop done bytes))
    ≡ take (length (take m (take (length bytes - done) (drop done bytes)))) (drop done bytes))
piece_of bytes done m few =
    let is : take m (take (length bytes - done) (drop done bytes)) ≡ take m (drop done bytes) =
    take_fewer m (length bytes - done) (drop done bytes) few in
    let long : length (take m (take (length bytes - done) (drop done bytes))) ≡ m =
    ap length is ∙ (let l : length (take m (drop done bytes)) ≡ m =
    omega (arith, length-take m (drop done bytes), length-drop done bytes) in l) in
    (long, is ∙ ap (λ n. take n (drop done bytes)) (sym long))
