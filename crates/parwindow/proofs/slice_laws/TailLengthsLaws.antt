-- The unpadded lengths below the slice size, sorted and without repeats, are the
-- numbers that pass a test.
use Rattle.std.proofs.Common.{◌≡◌, ◌⊎◌, ℕ, zero, suc, ◌+◌, ◌-◌, ◌<◌, ◌≤◌, Bool, true, false, nat_lt, not, eqb, eq-eqb, List, [], ◌∷◌, length, refl, sym, ap, ◌∙◌, inl, inr, arith}
use Rattle.std.specs.Prelude.{All, Contains, filter}
use Rattle.std.specs.List.{dedup, list_any, range_with_len}
use Rattle.std.specs.List.Sorted.{IsPermutation, IsSorted, IsStrictlyIncreasing, IsStrictlySortedBy}
use Rattle.std.specs.Ordering.{nat_cmp}
use Rattle.std.proofs.lemmas.Bool.{and_parts, and_from, cases_Bool, cases_lt, eqb-true, ltb-true, lt-ltb}
use Rattle.std.proofs.lemmas.List.Elements.{All-filter}
use Rattle.std.proofs.lemmas.List.Folds.{Any-from_list_any, list_any-from_Any}
use Rattle.std.proofs.lemmas.List.FromFn.{length-range_with_len, get_or-range_with_len}
use Rattle.std.proofs.lemmas.List.Filters.{length-filter_both}
use Rattle.std.proofs.lemmas.List.Kept.{Contains-dedup_nat, Contains-from_dedup, IsStrictlyIncreasing-filter}
use Rattle.std.proofs.lemmas.List.Sorted.{Contains-permutation, IsPermutation-sym}
use Rattle.std.proofs.lemmas.Map.Keys.{IsStrictlyIncreasing-dedup, sorted_from_strictly_increasing, below_from_sorted}
use Rattle.parset.specs.declared.recovery_set.SetSlice.{SetSlice}
use Rattle.parwindow.specs.Index.{SliceSet, has_known_sums, has_own, slice_set_of, tails_of}
use Rattle.parwindow.specs.TailLengths.{AreShortOf, TailsFit, is_short}

-- an item of a list is its first one or in the rest
first_or_rest : (x y : ℕ) (ys : List ℕ) → Contains (x ∷ ys) y → (x ≡ y) ⊎ Contains ys y
first_or_rest x y ys (zero, below, is) = inl is
first_or_rest x y ys (suc k, below, is) = inr (k, omega (arith, below), is)

later : (x y : ℕ) (ys : List ℕ) → Contains ys y → Contains (x ∷ ys) y
later x y ys (k, below, is) = (suc k, omega (arith, below), is)

first_below : (x y : ℕ) (ys : List ℕ) → IsStrictlySortedBy nat_cmp (x ∷ ys) → Contains ys y → x < y
first_below x y ys rises (k, below, is) =
    rw is at (below_from_sorted (x ∷ ys) 0 (suc k) y rises (omega arith) (omega (arith, below)))

rest_rises : (x : ℕ) (ys : List ℕ) → IsStrictlySortedBy nat_cmp (x ∷ ys)
    → IsStrictlySortedBy nat_cmp ys
unfolding IsStrictlySortedBy
rest_rises x ys rises = rises.1

-- the case that the first number of the range passes, if the result is known for
-- the rest of the range
with_first : (p : ℕ → Bool) (n lo : ℕ) (xs : List ℕ)
    → ((ys : List ℕ) → IsStrictlySortedBy nat_cmp ys
    → ((x : ℕ) → Contains ys x → (lo + 1 ≤ x) × (x < lo + 1 + n) × (p x ≡ true))
    → ((x : ℕ) → lo + 1 ≤ x → x < lo + 1 + n → p x ≡ true → Contains ys x)
    → ys ≡ filter p (range_with_len (lo + 1) n))
    → IsStrictlySortedBy nat_cmp xs
    → ((x : ℕ) → Contains xs x → (lo ≤ x) × (x < lo + suc n) × (p x ≡ true))
    → ((x : ℕ) → lo ≤ x → x < lo + suc n → p x ≡ true → Contains xs x)
    → p lo ≡ true → xs ≡ lo ∷ filter p (range_with_len (lo + 1) n)
with_first p n lo [] known rises sound complete passes =
    let none = complete lo (omega arith) (omega arith) passes in absurd (omega (arith, none.1))
with_first p n lo (x ∷ ys) known rises sound complete passes =
    let first = sound x (0, omega arith, refl) in
    let same : x ≡ lo = elim (first_or_rest x lo ys
    (complete lo (omega arith) (omega arith) passes)) [
      | inl is ↦ is
      | inr there ↦ absurd (omega (arith, first.0, first_below x lo ys rises there))
    ] in
    let rest = known ys (rest_rises x ys rises)
    (λ y there.
    let is = sound y (later x y ys there) in
    let more : x < y = first_below x y ys rises there in
    (omega (arith, more, same), omega (arith, is.1), is.2))
    (λ y above below pass. elim (first_or_rest x y ys
    (complete y (omega (arith, above)) (omega (arith, below)) pass)) [
      | inl is ↦ absurd (omega (arith, is, same, above))
      | inr there ↦ there
    ]) in
    rw (same, ← rest) refl

-- an increasing list of exactly the numbers of a range that pass a test is the filtered range
pub rising_is_filter : (p : ℕ → Bool) (n lo : ℕ) (xs : List ℕ) → IsStrictlySortedBy nat_cmp xs
    → ((x : ℕ) → Contains xs x → (lo ≤ x) × (x < lo + n) × (p x ≡ true))
    → ((x : ℕ) → lo ≤ x → x < lo + n → p x ≡ true → Contains xs x)
    → xs ≡ filter p (range_with_len lo n)
rising_is_filter p zero lo [] rises sound complete = refl
rising_is_filter p zero lo (x ∷ ys) rises sound complete =
    absurd (omega (arith, (sound x (0, omega arith, refl)).0, (sound x (0, omega arith, refl)).1))
rising_is_filter p (suc n) lo xs rises sound complete =
    elim (cases_Bool (p lo)) [
      | inl passes ↦ rw passes (with_first p n lo xs (rising_is_filter p n (lo + 1)) rises sound
          complete passes)
      | inr fails ↦
          rw fails (rising_is_filter p n (lo + 1) xs rises
          (λ x there.
          let is = sound x there in
          let other : lo < x = elim (cases_lt lo x) [
            | inl less ↦ less
            | inr up ↦
                let same : x ≡ lo = omega (arith, is.0) in
                let wrong : false ≡ true = sym fails ∙ ap p (sym same) ∙ is.2 in cc
          ] in
          (omega (arith, other), omega (arith, is.1), is.2))
          (λ x above below pass. complete x (omega (arith, above)) (omega (arith, below)) pass))
    ]

-- the short-slice lengths in the order of the slices
module _ (size : ℕ) (slices : List SetSlice) (lengths : List ℕ)
    (own : All (λ slice. 0 < slice.length) slices) (are : AreShortOf size slices lengths) where
  pub short_sound : (x : ℕ) → Contains lengths x → (1 ≤ x) × (x < 1 + (size - 1))
      × (list_any (has_own x has_known_sums) slices ≡ true)
  short_sound x there =
      let found : list_any (λ y. eqb y x) lengths ≡ true =
      list_any-from_Any (λ y. eqb y x) lengths
      (there.0, x, there.1, there.2, eq-eqb x x refl) in
      let some = Any-from_list_any (has_own x (is_short size)) slices (sym (are x) ∙ found) in
      let s = some.1 in
      let parts = and_parts (eqb s.length x) (is_short size s) some.4 in
      let short = and_parts (has_known_sums s) (nat_lt s.length size) parts.1 in
      let is : s.length ≡ x = eqb-true s.length x parts.0 in
      let below : s.length < size = ltb-true s.length size short.1 in
      let above : 0 < s.length = rw some.3 at (own some.0 s some.2) in (
        omega (arith, above, is),
        omega (arith, below, is),
        list_any-from_Any (has_own x has_known_sums) slices (
          some.0,
          s,
          some.2,
          some.3,
          and_from (eqb s.length x) (has_known_sums s) parts.0 short.0,
        ),
      )

  pub short_complete : (x : ℕ) → 1 ≤ x → x < 1 + (size - 1)
      → list_any (has_own x has_known_sums) slices ≡ true → Contains lengths x
  short_complete x above below any =
      let some = Any-from_list_any (has_own x has_known_sums) slices any in
      let s = some.1 in
      let parts = and_parts (eqb s.length x) (has_known_sums s) some.4 in
      let is : s.length ≡ x = eqb-true s.length x parts.0 in
      let short : nat_lt s.length size ≡ true =
      lt-ltb s.length size (omega (arith, is, below, above)) in
      let found : list_any (has_own x (is_short size)) slices ≡ true =
      list_any-from_Any (has_own x (is_short size)) slices (
        some.0,
        s,
        some.2,
        some.3,
        and_from (eqb s.length x) (is_short size s) parts.0
            (and_from (has_known_sums s) (nat_lt s.length size) parts.1 short),
      ) in
      let there = Any-from_list_any (λ y. eqb y x) lengths (are x ∙ found) in
      let same : there.1 ≡ x = eqb-true there.1 x there.4 in
      let place : Contains lengths there.1 = (there.0, there.2, there.3) in
      rw same at place

  -- the short-slice lengths, sorted and without repeats
  pub tails_are : (sorted : List ℕ) → IsPermutation lengths sorted → IsSorted nat_cmp sorted
      → dedup eqb sorted ≡ tails_of (slice_set_of size slices)
  tails_are sorted moved rises =
      rising_is_filter (λ x. list_any (has_own x has_known_sums) slices) (size - 1) 1
      (dedup eqb sorted)
      (sorted_from_strictly_increasing (dedup eqb sorted) (IsStrictlyIncreasing-dedup sorted rises))
      (λ x there. short_sound x
      (Contains-permutation sorted lengths x (IsPermutation-sym lengths sorted moved)
      (Contains-from_dedup eqb sorted x there)))
      (λ x above below any. Contains-dedup_nat sorted x
      (Contains-permutation lengths sorted x moved (short_complete x above below any)))

-- the lengths are increasing, and each is below the slice size
range_rises : (n lo : ℕ) → IsStrictlyIncreasing (range_with_len lo n)
range_rises n lo k below =
    let inside : k + 1 < n = omega (arith, below, length-range_with_len lo n) in
    rw (get_or-range_with_len lo n k 0 (omega arith), get_or-range_with_len lo n (k + 1) 0 inside)
    (omega arith)

range_within : (n lo : ℕ) → All (λ x. (lo ≤ x) × (x < lo + n)) (range_with_len lo n)
range_within n lo k d below =
    let inside : k < n = omega (arith, below, length-range_with_len lo n) in
    rw (get_or-range_with_len lo n k d inside) (omega arith, omega arith)

-- there are no more short-slice lengths than bytes in a slice
pub few_tails : (set : SliceSet) → length (tails_of set) ≤ set.slice_size
few_tails set =
    let p : ℕ → Bool = λ own. list_any (has_own own has_known_sums) set.slices in
    omega (
      arith,
      length-filter_both p (λ x. not (p x)) (λ x. refl) (range_with_len 1
          (set.slice_size - 1)),
      length-range_with_len 1 (set.slice_size - 1),
    )

pub tails_fit : TailsFit
tails_fit set =
    let p : ℕ → Bool = λ own. list_any (has_own own has_known_sums) set.slices in
    record {
      rising = IsStrictlyIncreasing-filter p (range_with_len 1 (set.slice_size - 1))
          (range_rises (set.slice_size - 1) 1);
      within = λ k d below.
          let is = All-filter p (λ x. (1 ≤ x) × (x < 1 + (set.slice_size - 1)))
          (range_with_len 1 (set.slice_size - 1)) (range_within (set.slice_size - 1) 1) k d below in
          (omega (arith, is.0), omega (arith, is.0, is.1));
    }
