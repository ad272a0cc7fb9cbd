-- The register of the first bytes of a window, when a byte comes and another one leaves.
use Rattle.std.proofs.Common.{◌≡◌, ℕ, zero, suc, ◌+◌, ◌-◌, ◌<◌, ◌≤◌, ◌≢◌, Option, List, [], ◌∷◌, ◌++◌, length, take, drop, get_or, set, refl, sym, ap, ◌∙◌, inl, inr, arith, length-append, length-take, get_or-set_same, get_or-set_other}
use Rattle.std.proofs.Math.Seq.{map-set_same, take-append_seam}
use Rattle.std.specs.List.{slice_get}
use Rattle.std.specs.Option.{unwrap_or}
use Rattle.std.proofs.lemmas.Bool.{cases_lt}
use Rattle.std.proofs.lemmas.Option.{slice_get-get_or}
use Rattle.std.proofs.lemmas.List.{length-map, map-append, take_all, take_more, take-append-le}
use Rattle.std.proofs.lemmas.List.Elements.{All-push}
use Rattle.std.specs.Prelude.{All}
use Rattle.parwindow.specs.Window.{AreTails}
use Rattle.circular_buffer.specs.Buffer.{keep_last}
use Rattle.std.proofs.Math.ListN.{length-set}
use Rattle.std.specs.Int.Bits.{bit_xor}
use Rattle.parwindow.specs.Crc32.{register_after, register_of, removal_of}
use Rattle.parwindow.specs.Tables.{IsRemovalTable}
use Rattle.parwindow.specs.Rolling.{rolled_register}
use Rattle.parwindow.specs.Tails.{IsTail, tail_lengths_of}
use Rattle.parwindow.specs.declared.tails.tail.Tail.{Tail}
use Rattle.parwindow.proofs.crc_laws.CrcLaws.{register_of-push}
use Rattle.parwindow.proofs.window_laws.PushLaws.{once_rolled, keep_last-full, keep_last-room, register_of-rolled}

-- the content after a byte came
abbrev pub moved : List ℕ → ℕ → ℕ → List ℕ
moved items cap y = keep_last cap (items ++ y ∷ [])

module _ (items : List ℕ) (cap own y r : ℕ) (is : r ≡ register_of (take own items))
    (some : 0 < own) (shorter : own < cap) where
  -- as long as the window has fewer bytes than the tail's length, its register takes in each
  pub tail_grows : length items < own
      → register_after r y ≡ register_of (take own (moved items cap y))
  tail_grows fewer =
      let room : keep_last cap (items ++ y ∷ []) ≡ items ++ y ∷ [] =
      keep_last-room items cap y (omega arith) in
      let whole : take own (items ++ y ∷ []) ≡ items ++ y ∷ [] =
      take_all own (items ++ y ∷ []) (omega (arith, length-append items (y ∷ []))) in
      let all : take own items ≡ items = take_all own items (omega arith) in
      rw (room, whole, is, all) (sym (register_of-push items y))

  -- after that, it stays the same until the window is full
  pub tail_stays : own ≤ length items → length items < cap
      → r ≡ register_of (take own (moved items cap y))
  tail_stays enough less =
      let room : keep_last cap (items ++ y ∷ []) ≡ items ++ y ∷ [] =
      keep_last-room items cap y less in
      rw (room, take-append-le own items (y ∷ []) enough) is

-- when the window is full, it rolls
slides_on : (x : ℕ) (b : List ℕ) (m y : ℕ) → m < length b
    → rolled_register m (register_of (x ∷ take m b)) x (get_or b m 0)
    ≡ register_of (take (m + 1) (b ++ y ∷ []))
slides_on x b m y less =
    let others : length (take m b) ≡ m = omega (arith, length-take m b) in
    sym (ap register_of (take-append-le (m + 1) b (y ∷ []) (omega arith) ∙ take_more b m 0 less)
    ∙ register_of-rolled (take m b) x (get_or b m 0)
    ∙ ap (λ n. rolled_register n (register_of (x ∷ take m b)) x (get_or b m 0)) others)

pub tail_rolls : (items : List ℕ) (cap own y r : ℕ) → r ≡ register_of (take own items)
    → 0 < own → own < cap → length items ≡ cap
    → rolled_register (own - 1) r (get_or items 0 0) (get_or items own 0)
    ≡ register_of (take own (moved items cap y))
tail_rolls [] cap own y r is some shorter full = absurd (omega arith)
tail_rolls (x ∷ b) cap zero y r is some shorter full = absurd (omega arith)
tail_rolls (x ∷ b) cap (suc m) y r is some shorter full =
    let before : suc m - 1 ≡ m = omega arith in
    let next : suc m ≡ m + 1 = omega arith in
    rw (before, is, keep_last-full x b cap y (omega arith))
    (slides_on x b m y (omega arith) ∙ ap (λ n. register_of (take n (b ++ y ∷ []))) (sym next))

-- the register of no bytes
pub register_of-none : (n : ℕ) → register_of (take n []) ≡ 0xFFFFFFFF
unfolding register_of
register_of-none zero = refl
register_of-none (suc n) = refl

-- the byte that is read of a list
pub read_at : (items : List ℕ) (i read : ℕ) (found copied : Option ℕ) → i < length items
    → found ≡ slice_get items i → copied ≡ found → read ≡ unwrap_or copied 0
    → read ≡ get_or items i 0
read_at items i read found copied inside get copy is =
    is ∙ ap (λ o. unwrap_or o 0) (copy ∙ get ∙ slice_get-get_or items i 0 inside)

-- rolling the register with its table
pub tail_rolled : (removed : List ℕ) (own r x y : ℕ) → 0 < own → IsRemovalTable removed own → x < 256
    → bit_xor (register_after r y) (get_or removed x 0) ≡ rolled_register (own - 1) r x y
tail_rolled removed own r x y some removes small =
    let e : own ≡ own - 1 + 1 = omega arith in
    ap (bit_xor (register_after r y)) (removes x small ∙ ap (removal_of x) e)
    ∙ once_rolled (own - 1) r x y

-- the first k tails were moved, and the others not yet
pub record MovedSoFar (cap : ℕ) (before after : List ℕ) (tails : List Tail) (k : ℕ) : Type 0 where
  pub moved : (j : ℕ) (d : Tail) → j < k → IsTail cap after (get_or tails j d)
  pub others : (j : ℕ) (d : Tail) → k ≤ j → j < length tails → IsTail cap before (get_or tails j d)

-- one tail more was moved
module _ (tails : List Tail) (k : ℕ) (t e : Tail) (below : k < length tails)
    (length_is : t.length ≡ (get_or tails k e).length) where
  pub lengths_more : tail_lengths_of (set tails k t) ≡ tail_lengths_of tails
  lengths_more = map-set_same (λ (tail : Tail). tail.length) tails k t e length_is

  pub moved_to : (cap : ℕ) (before after : List ℕ) → IsTail cap after t
      → MovedSoFar cap before after tails k → MovedSoFar cap before after (set tails k t) (k + 1)
  moved_to cap before after now so_far = record {
    moved = λ j d less. elim (cases_lt j k) [
      | inl early ↦ let ne : j ≢ k = omega arith in
          rw get_or-set_other (so_far.moved j d early)
      | inr up ↦ let last : j ≡ k = omega arith in rw (last, get_or-set_same) now
    ];
    others = λ j d more inside.
        let ne : j ≢ k = omega arith in
        rw get_or-set_other (so_far.others j d (omega arith)
        (omega (arith, inside, length-set tails k t)));
  }

  pub moved_more : (cap : ℕ) (before after : List ℕ) → t.zeros.len ≡ (get_or tails k e).zeros.len
      → t.register ≡ register_of (take (get_or tails k e).length after)
      → MovedSoFar cap before after tails k → MovedSoFar cap before after (set tails k t) (k + 1)
  moved_more cap before after zeros_is moves so_far =
      let was = so_far.others k e (omega arith) below in
      let now : IsTail cap after t = record {
        some = rw length_is was.some;
        shorter = rw length_is was.shorter;
        filled = rw (length_is, zeros_is) was.filled;
        rolled = rw length_is moves;
      } in
      moved_to cap before after now so_far

-- one tail more for a window without bytes
pub tail_pushed : (size : ℕ) (lengths : List ℕ) (tails : List Tail) (i : ℕ) (t : Tail)
    → AreTails size lengths → i < length lengths → t.length ≡ get_or lengths i 0
    → t.register ≡ 0xFFFFFFFF → t.zeros.len ≡ size - t.length
    → (tail_lengths_of tails ≡ take i lengths) × All (IsTail size []) tails
    → (tail_lengths_of (tails ++ t ∷ []) ≡ take (i + 1) lengths) × All (IsTail size []) (tails ++ t ∷ [])
tail_pushed size lengths tails i t are below length_is register_is zeros_is so_far =
    let within = are.within i 0 below in
    let one : IsTail size [] t = record {
      some = rw length_is within.0;
      shorter = rw length_is within.1;
      filled = omega (arith, zeros_is, length_is, within.1);
      rolled = register_is ∙ sym (register_of-none t.length);
    } in (
      map-append (λ (tail : Tail). tail.length) tails (t ∷ [])
          ∙ rw (so_far.0, length_is) (sym (take_more lengths i 0 below)),
      All-push (IsTail size []) tails t so_far.1 one,
    )

-- the vector after all of its tails were overwritten
pub refilled : (items new : List Tail) (len : ℕ) → len ≡ length items
    → tail_lengths_of new ≡ tail_lengths_of items → take len (new ++ drop (length new) items) ≡ new
refilled items new len is same =
    let as_many : length new ≡ length items =
    sym (length-map new (λ (tail : Tail). tail.length)) ∙ ap length same
    ∙ length-map items (λ (tail : Tail). tail.length) in
    let all : len ≡ length new = is ∙ sym as_many in
    rw all (take-append_seam new (drop (length new) items))
