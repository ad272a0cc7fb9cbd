-- The search for the least short-slice length, from one on, whose bytes and zeros have the CRC-32
-- of a slice: length by length.
use Rattle.std.proofs.Common.{◌≡◌, ℕ, zero, suc, ◌+◌, ◌-◌, ◌<◌, ◌≤◌, ◌++◌, Bool, true, false, ◌&&◌, nat_le, List, [], ◌∷◌, length, take, drop, fold, min, get_or, refl, sym, ap, ◌∙◌, arith, inl, inr, None, Some}
use Rattle.std.specs.List.{find}
use Rattle.std.proofs.lemmas.Bool.{cases_Bool, false_from_ne_true, leb-true, le-leb}
use Rattle.std.proofs.lemmas.List.{drop_min, length-drop, take-append-drop, take-take, take_all}
use Rattle.std.proofs.lemmas.List.Elements.{All-get_or}
use Rattle.std.proofs.Math.Bool.{and-false}
use Rattle.std.proofs.lemmas.List.Sums.{fold-append}
use Rattle.std.proofs.lemmas.Map.Keys.{below_from_sorted, sorted_from_strictly_increasing}
use Rattle.parwindow.specs.Crc32.{register_after, register_of}
use Rattle.parwindow.specs.FilterBits.{zeros_crc}
use Rattle.parwindow.specs.Index.{SliceSet, set_has_own_crc}
use Rattle.parwindow.specs.Tails.{is_tail_slice}
use Rattle.parwindow.specs.Window.{AreTails}
use Rattle.parwindow.proofs.tail_laws.TailContentLaws.{tail_crc_is}

-- the first element that passes a test, if none before it does
find_at : (p : ℕ → Bool) (xs : List ℕ) (k : ℕ) → k < length xs → find p (take k xs) ≡ None → p (get_or xs k 0) ≡ true → find p xs ≡ Some (get_or xs k 0)
find_at p [] k there none passes = absurd (omega arith)
find_at p (x ∷ xs) zero there none passes = rw passes refl
find_at p (x ∷ xs) (suc k) there none passes = elim (cases_Bool (p x)) [
  | inl is ↦ let wrong : Some x ≡ None = rw is at none in cc
  | inr fails ↦ rw fails (find_at p xs k (omega arith) (rw fails at none) passes)
]

-- one more element that doesn't pass
find_more : (p : ℕ → Bool) (xs : List ℕ) (k : ℕ) → k < length xs → find p (take k xs) ≡ None → p (get_or xs k 0) ≡ false → find p (take (suc k) xs) ≡ None
find_more p [] k there none fails = absurd (omega arith)
find_more p (x ∷ xs) zero there none fails = rw fails refl
find_more p (x ∷ xs) (suc k) there none fails = elim (cases_Bool (p x)) [
  | inl is ↦ let wrong : Some x ≡ None = rw is at none in cc
  | inr not ↦ rw not (find_more p xs k (omega arith) (rw not at none) fails)
]

-- dropping n elements of two joined lists drops from the first list what it has, and the remaining
-- number from the second
pub drop_both : (n : ℕ) (xs ys : List ℕ) → drop n (xs ++ ys) ≡ drop n xs ++ drop (n - length xs) ys
drop_both zero [] ys = refl
drop_both (suc n) [] ys =
    let all : suc n ≡ suc n - 0 = omega arith in
    ap (λ m. drop m ys) all
drop_both zero (x ∷ xs) ys =
    let none : 0 ≡ 0 - suc (length xs) = omega arith in
    ap (λ n. (x ∷ xs) ++ drop n ys) none
drop_both (suc n) (x ∷ xs) ys =
    let same : n - length xs ≡ suc n - suc (length xs) = omega arith in
    drop_both n xs ys ∙ ap (λ m. drop n xs ++ drop m ys) same

-- the rest of a list from index m on
rest_of_list : (m : ℕ) (xs : List ℕ) → take (length xs - m) (drop m xs) ≡ drop m xs
rest_of_list m xs = take_all (length xs - m) (drop m xs) (omega (arith, length-drop m xs))

-- the register after bytes that are in two parts, from index `done` on
pub register_on : (front back bytes : List ℕ) (done m n register : ℕ) → front ++ back ≡ bytes → m ≡ min done (length front) → n ≡ min (done - m) (length back)
    → fold register_after (fold register_after register (take (length front - m) (drop m front))) (take (length back - n) (drop n back))
    ≡ fold register_after register (drop done bytes)
register_on front back bytes done m n register is first second =
    let rest : done - m ≡ done - length front = omega arith in
    let before : drop m front ≡ drop done front = ap (λ k. drop k front) first ∙ drop_min done front in
    let after : drop n back ≡ drop (done - length front) back =
    ap (λ k. drop k back) second ∙ drop_min (done - m) back ∙ ap (λ k. drop k back) rest in
    ap (λ xs. fold register_after (fold register_after register xs) (take (length back - n) (drop n back))) (rest_of_list m front ∙ before)
    ∙ ap (fold register_after (fold register_after register (drop done front))) (rest_of_list n back ∙ after)
    ∙ sym (fold-append register_after register (drop done front) (drop (done - length front) back))
    ∙ ap (fold register_after register) (sym (drop_both done front back) ∙ ap (drop done) is)

-- none of the first k lengths passes, and the register is the one after the first `done` bytes;
-- `done` is the last of these lengths
pub record NextTailSoFar (set : SliceSet) (content : List ℕ) (from : ℕ) (tails : List ℕ) (k done register : ℕ) : Type 0 where
  pub rolled : register ≡ register_of (take done content)
  pub before : (j : ℕ) → k ≤ j → j < length tails → done ≤ get_or tails j 0
  pub none : find (λ own. nat_le from own && is_tail_slice set set.slice_size content own) (take k tails) ≡ None

module _ (set : SliceSet) (content : List ℕ) (from : ℕ) (tails : List ℕ) (are : AreTails set.slice_size tails) where
  abbrev test : ℕ → Bool
  test own = nat_le from own && is_tail_slice set set.slice_size content own

  pub next_init : NextTailSoFar set content from tails 0 0 4294967295
  unfolding register_of
  next_init = record { rolled = refl; before = λ j later there. omega arith; none = refl }

  -- the step to the next length
  module _ (k done register after : ℕ)
      (so_far : NextTailSoFar set content from tails k done register) (there : k < length tails)
      (rolls : after ≡ fold register_after register (drop done (take (get_or tails k 0) content))) where
    abbrev own : ℕ
    own = get_or tails k 0

    own_rolled : after ≡ register_of (take own content)
    unfolding register_of
    own_rolled =
        let less : done ≤ own = so_far.before k (omega arith) there in
        let first : take done (take own content) ≡ take done content = take-take done own content less in
        rolls ∙ ap (λ r. fold register_after r (drop done (take own content))) (so_far.rolled ∙ ap (fold register_after 4294967295) (sym first))
        ∙ sym (fold-append register_after 4294967295 (take done (take own content)) (drop done (take own content)))
        ∙ ap (fold register_after 4294967295) (take-append-drop done (take own content))

    own_test : set_has_own_crc set (zeros_crc (set.slice_size - own) after) own
        ≡ is_tail_slice set set.slice_size content own
    own_test =
        let within = All-get_or (λ own. (0 < own) × (own < set.slice_size)) tails k 0 there are.within in
        let less : own < set.slice_size = within.1 in
        ap (λ crc. set_has_own_crc set crc own)
        (tail_crc_is content set.slice_size own (set.slice_size - own) after own_rolled (omega arith))

    more : test own ≡ false → NextTailSoFar set content from tails (k + 1) own after
    more fails = record {
      rolled = own_rolled;
      before = λ j later last. omega (
        arith,
        below_from_sorted tails k j 0 (sorted_from_strictly_increasing tails are.rising) (omega arith) last,
      );
      none =
          let next : k + 1 ≡ suc k = omega arith in
          rw next (find_more test tails k there so_far.none fails);
    }

    -- it is the first one that passes
    pub next_found : from ≤ own
        → set_has_own_crc set (zeros_crc (set.slice_size - own) after) own ≡ true
        → Some own ≡ find (λ own. nat_le from own && is_tail_slice set set.slice_size content own) tails
    next_found late hit =
        let passes : nat_le from own ≡ true = le-leb from own late in
        let is : is_tail_slice set set.slice_size content own ≡ true = sym own_test ∙ hit in
        sym (find_at test tails k there so_far.none (rw (passes, is) refl))

    -- the length is too short: it is below `from`
    pub next_early : own < from → NextTailSoFar set content from tails (k + 1) own after
    next_early early =
        let fails : nat_le from own ≡ false = false_from_ne_true (nat_le from own) (λ h.
        let late : from ≤ own = leb-true from own h in absurd (omega (arith, early))) in
        more (ap (λ b. b && is_tail_slice set set.slice_size content own) fails)

    -- no slice of this length has the CRC-32
    pub next_missed : set_has_own_crc set (zeros_crc (set.slice_size - own) after) own ≡ false
        → NextTailSoFar set content from tails (k + 1) own after
    next_missed none =
        more (ap (λ b. nat_le from own && b) (sym own_test ∙ none) ∙ and-false (nat_le from own))
