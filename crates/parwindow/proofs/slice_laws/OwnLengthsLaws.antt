-- The shortest slice that has a CRC-32, and a binary search for a CRC-32 and a length.
use Rattle.std.proofs.Common.{◌≡◌, ℕ, ◌<◌, ◌≤◌, true, false, nat_lt, nat_le, eqb, eq-eqb, List, length, get_or, Result, Ok, Err, Ordering, Less, Equal, Greater, refl, sym, ◌∙◌, inl, inr, arith}
use Rattle.std.specs.Prelude.{is_ok}
use Rattle.std.specs.Ordering.{nat_cmp, ordering_then, is_lt}
use Rattle.std.specs.Cmp.{IsTotalOrder}
use Rattle.std.specs.List.{list_any}
use Rattle.std.specs.List.Sorted.{IsSorted, IsPartitionedBy, IsPartitionPoint, IsSearchInRange, IsBinarySearchResult}
use Rattle.std.proofs.lemmas.Bool.{and_parts, and_from, cases_lt, lt-ltb, ltb-true, eqb-true, leb-true, le-leb, false_from_ne_true}
use Rattle.std.proofs.lemmas.Bool.Decides.{nat_tests}
use Rattle.std.proofs.lemmas.Cmp.{nat_cmp_total, then_total, on_total, tied_itself}
use Rattle.std.proofs.lemmas.List.{get_or_default}
use Rattle.std.proofs.lemmas.List.Folds.{Any-from_list_any, list_any-from_Any, list_any_at}
use Rattle.std.proofs.lemmas.List.Sorted.{searchable_from_sorted, sorted_far, ranks_by}
use Rattle.parwindow.specs.declared.slices.own_lengths.OwnLength.{OwnLength}
use Rattle.parwindow.specs.OwnLengths.{length_cmp, is_exactly, is_within}
use Rattle.parset.specs.declared.recovery_set.SetSlice.{SetSlice}
use Rattle.parwindow.specs.Index.{has_known_crc, has_own}
use Rattle.parwindow.proofs.slice_laws.OrderLaws.{nat_cmp-equal}
use Rattle.parwindow.proofs.slice_laws.KnownSumsLaws.{same_bools}

length_cmp_total : IsTotalOrder length_cmp
length_cmp_total = then_total (on_total (λ (f : OwnLength). f.crc) nat_cmp_total)
    (on_total (λ (f : OwnLength). f.length) nat_cmp_total)

not_less : (a b : OwnLength) → is_lt (length_cmp a b) ≡ false → (b.crc ≤ a.crc)
    × (a.crc ≡ b.crc → b.length ≤ a.length)
not_less a b far = elim (cases_lt a.crc b.crc) [
  | inl less ↦ let wrong : true ≡ false = rw (lt-ltb a.crc b.crc less) at far in cc
  | inr up ↦ (
    up,
    λ same. elim (cases_lt a.length b.length) [
      | inl less ↦
          let wrong : true ≡ false =
          rw (same, tied_itself nat_cmp_total b.crc, lt-ltb a.length b.length less) at far in cc
      | inr more ↦ more
    ],
  )
]

module _ (own : List OwnLength) (rises : IsSorted length_cmp own) where
  far : (i j : ℕ) (d : OwnLength) → i ≤ j → j < length own
      → ((get_or own i d).crc ≤ (get_or own j d).crc)
      × ((get_or own j d).crc ≡ (get_or own i d).crc
      → (get_or own i d).length ≤ (get_or own j d).length)
  far i j d up within =
      not_less (get_or own j d) (get_or own i d)
      (sorted_far (λ x y. is_lt (length_cmp x y)) (ranks_by length_cmp_total (λ (f : OwnLength). f))
      own rises i j d up within)

  pub parted_lengths : (c : ℕ) → IsPartitionedBy (λ (f : OwnLength). nat_lt f.crc c) own
  parted_lengths c i j d up within lower =
      let less : (get_or own j d).crc < c = ltb-true (get_or own j d).crc c lower in
      lt-ltb (get_or own i d).crc c (omega (arith, less, (far i j d up within).0))

  module _ (c left start : ℕ)
      (first : IsPartitionPoint (λ (y : OwnLength). nat_lt y.crc c ≡ true)
      (λ (y : OwnLength). nat_lt y.crc c ≡ false) own start) where
    -- if some item has the CRC-32 and fits, the first one with this CRC-32 does
    some_within : list_any (is_within c left) own ≡ true → (d : OwnLength)
        → (start < length own) × (is_within c left (get_or own start d) ≡ true)
    some_within h d =
        let some = Any-from_list_any (is_within c left) own h in
        let k = some.0 in
        let x = some.1 in
        let inside : k < length own = some.2 in
        let parts = and_parts (eqb x.crc c) (nat_le x.length left) some.4 in
        let same : x.crc ≡ c = eqb-true x.crc c parts.0 in
        let short : x.length ≤ left = leb-true x.length left parts.1 in
        elim (cases_lt k start) [
          | inl before ↦
              let low : nat_lt x.crc c ≡ true = rw some.3 at (first.0 k x (omega arith) before) in
              absurd (omega (arith, same, ltb-true x.crc c low))
          | inr after ↦
              let s : OwnLength = get_or own start d in
              let here : get_or own k d ≡ x = get_or_default own k d x inside ∙ some.3 in
              let there : start < length own = omega arith in
              let ranks = rw here at (far start k d after inside) in
              let high : nat_lt s.crc c ≡ false = first.1 start d (omega arith) there in
              let up : c ≤ s.crc = grind (arith, nat_tests) in
              let is : s.crc ≡ c = omega (arith, up, ranks.0, same) in
              let least : s.length ≤ x.length = ranks.1 (same ∙ sym is) in (
                there,
                and_from (eqb s.crc c) (nat_le s.length left) (eq-eqb s.crc c is)
                    (le-leb s.length left (omega (arith, least, short))),
              )
        ]

    pub first_within : (f : OwnLength) → start < length own → get_or own start f ≡ f
        → is_within c left f ≡ list_any (is_within c left) own
    first_within f there is =
        same_bools (is_within c left f) (list_any (is_within c left) own) (
          λ h. list_any_at (is_within c left) own start f there (rw is h),
          λ any. rw is at (some_within any f).1,
        )

    pub none_within : length own ≤ start → list_any (is_within c left) own ≡ false
    none_within past =
        same_bools (list_any (is_within c left) own) false (
          λ any. absurd (omega (arith, (some_within any (record { crc = 0; length = 0 })).0)),
          λ h. cc,
        )

both_equal : (a b : Ordering) → ordering_then a b ≡ Equal → (a ≡ Equal) × (b ≡ Equal)
both_equal Less b h = cc
both_equal Equal b h = (refl, h)
both_equal Greater b h = cc

abbrev pub length_of : ℕ → ℕ → OwnLength
length_of c l = record { crc = c; length = l }

-- an item that passes the test is equal to the wanted one in the order
is_the_one : (c l : ℕ) (x : OwnLength) → is_exactly c l x ≡ true
    → length_cmp x (length_of c l) ≡ Equal
is_the_one c l x h =
    let parts = and_parts (eqb x.length l) (eqb x.crc c) h in
    rw (
      eqb-true x.crc c parts.1,
      eqb-true x.length l parts.0,
      tied_itself nat_cmp_total c,
      tied_itself nat_cmp_total l,
    ) refl

-- the search for a CRC-32 and a length finds one exactly if some item has both
pub exactly_from_search : (own : List OwnLength) → IsSorted length_cmp own → (c l : ℕ)
    (r : Result ℕ ℕ)
    → IsSearchInRange r (length own)
    → IsBinarySearchResult (λ y. length_cmp y (length_of c l)) own r
    → is_ok r ≡ list_any (is_exactly c l) own
exactly_from_search own rises c l (Ok at) range here =
    let d = length_of 0 0 in
    let x = get_or own at d in
    let parts = both_equal (nat_cmp x.crc c) (nat_cmp x.length l) (here d) in
    sym (list_any_at (is_exactly c l) own at d range
    (and_from (eqb x.length l) (eqb x.crc c)
    (eq-eqb x.length l (nat_cmp-equal x.length l parts.1))
    (eq-eqb x.crc c (nat_cmp-equal x.crc c parts.0))))
exactly_from_search own rises c l (Err at) range parted =
    let halves = parted (searchable_from_sorted length_cmp_total (λ (f : OwnLength). f) own
    (length_of c l) rises) in
    sym (false_from_ne_true (list_any (is_exactly c l) own) (λ any.
    let some = Any-from_list_any (is_exactly c l) own any in
    let even = is_the_one c l some.1 some.4 in
    elim (cases_lt some.0 at) [
      | inl before ↦
          let less : length_cmp some.1 (length_of c l) ≡ Less =
          rw some.3 at (halves.0 some.0 some.1 (omega arith) before) in
          let wrong : Less ≡ Equal = sym less ∙ even in cc
      | inr after ↦
          let more : length_cmp some.1 (length_of c l) ≡ Greater =
          rw some.3 at (halves.1 some.0 some.1 after some.2) in
          let wrong : Greater ≡ Equal = sym more ∙ even in cc
    ]))

-- if no slice has the CRC-32, no slice of any length has it
pub no_own : (slices : List SetSlice) (c own : ℕ) → list_any (has_known_crc c) slices ≡ false
    → list_any (has_own own (has_known_crc c)) slices ≡ false
no_own slices c own none =
    false_from_ne_true (list_any (has_own own (has_known_crc c)) slices) (λ any.
    let some = Any-from_list_any (has_own own (has_known_crc c)) slices any in
    let has = (and_parts (eqb some.1.length own) (has_known_crc c some.1) some.4).1 in
    let wrong : true ≡ false =
    sym (list_any-from_Any (has_known_crc c) slices (some.0, some.1, some.2, some.3, has)) ∙ none in
    cc)
