-- The least number of the slices that have a CRC-32, found among their entries.
use Rattle.std.proofs.Common.{◌≡◌, ℕ, ◌+◌, ◌-◌, ◌<◌, ◌≤◌, List, [], ◌∷◌, ◌++◌, length, take, drop, get_or, Option, Some, None, nat_lt, min, eqb, eq-eqb, true, false, refl, sym, ap, ◌∙◌, inl, inr, arith, length-drop, get_or-drop}
use Rattle.std.specs.Prelude.{Contains}
use Rattle.std.specs.List.{filter}
use Rattle.std.specs.List.Sorted.{IsSorted, IsPartitionedBy, IsPartitionPoint}
use Rattle.std.specs.Ordering.{nat_cmp, is_lt, on}
use Rattle.std.proofs.lemmas.Bool.{cases_lt, lt-ltb, eqb-true}
use Rattle.std.proofs.lemmas.Bool.Decides.{nat_tests}
use Rattle.std.proofs.lemmas.Cmp.{nat_cmp_total}
use Rattle.std.proofs.lemmas.List.Sorted.{sorted_far, ranks_by}
use Rattle.std.proofs.lemmas.List.{take_more}
use Rattle.std.proofs.lemmas.List.Elements.{All-push, All-contains, Contains-push, Contains-append_left}
use Rattle.parset.specs.declared.recovery_set.SetSlice.{SetSlice}
use Rattle.parwindow.specs.declared.slices.entries.Entry.{Entry}
use Rattle.parwindow.specs.Entries.{entry_cmp, HasSums, entry_has_crc, IsIndexOf, IsLeastOf, lesser}
use Rattle.parwindow.specs.Index.{slice_passes, has_known_crc}
use Rattle.parwindow.specs.Least.{IsLeastFrom}
use Rattle.parwindow.proofs.slice_laws.SearchLaws.{entry_of, crc_rises}
use Rattle.parwindow.proofs.slice_laws.KnownSumsLaws.{has_crc_at, crc_at}
use Rattle.parwindow.proofs.slice_laws.WithCrcLaws.{AreWithCrc}
use Rattle.parwindow.proofs.ListLaws.{filter_between}

-- the least number after one entry more
least_from_none : (xs : List Entry) (from : ℕ) (e : Entry) → IsLeastOf xs from None
    → IsLeastOf (xs ++ e ∷ []) from (lesser from None e.slice)
least_from_none xs from e below =
    elim (cases_lt e.slice from) [
      | inl less ↦ rw (lt-ltb e.slice from less) (All-push (λ x. x.slice < from) xs e below less)
      | inr not_less ↦
          let here : nat_lt e.slice from ≡ false = grind (arith, nat_tests) in
          let least : IsLeastOf (xs ++ e ∷ []) from (Some e.slice) = (
            omega arith,
            (e, (Contains-push xs e, refl)),
            All-push (λ x. from ≤ x.slice → e.slice ≤ x.slice) xs e
                (λ k d within above. absurd (omega (arith, below k d within)))
                (λ above. omega arith),
          ) in
          rw here least
    ]

least_from_some : (xs : List Entry) (from n : ℕ) (e : Entry) → IsLeastOf xs from (Some n)
    → IsLeastOf (xs ++ e ∷ []) from (lesser from (Some n) e.slice)
least_from_some xs from n e least =
    let held : (x : Entry) × (Contains (xs ++ e ∷ []) x × (x.slice ≡ n)) =
    (least.1.0, (Contains-append_left xs (e ∷ []) least.1.0 least.1.1.0, least.1.1.1)) in
    elim (cases_lt e.slice from) [
      | inl less ↦
          let kept : IsLeastOf (xs ++ e ∷ []) from (Some n) = (
            least.0,
            held,
            All-push (λ x. from ≤ x.slice → n ≤ x.slice) xs e least.2
                (λ above. absurd (omega arith)),
          ) in
          rw (lt-ltb e.slice from less) kept
      | inr not_less ↦
          let here : nat_lt e.slice from ≡ false = grind (arith, nat_tests) in
          elim (cases_lt e.slice n) [
            | inl lower ↦
                let is : min n e.slice ≡ e.slice = omega arith in
                let next : IsLeastOf (xs ++ e ∷ []) from (Some e.slice) = (
                  omega arith,
                  (e, (Contains-push xs e, refl)),
                  All-push (λ x. from ≤ x.slice → e.slice ≤ x.slice) xs e
                      (λ k d within above. omega (arith, least.2 k d within above))
                      (λ above. omega arith),
                ) in
                rw (here, is) next
            | inr not_lower ↦
                let is : min n e.slice ≡ n = omega arith in
                let kept : IsLeastOf (xs ++ e ∷ []) from (Some n) = (
                  least.0,
                  held,
                  All-push (λ x. from ≤ x.slice → n ≤ x.slice) xs e least.2 (λ above. omega arith),
                ) in
                rw (here, is) kept
          ]
    ]

pub least_more : (xs : List Entry) (from : ℕ) (least : Option ℕ) (e : Entry)
    → IsLeastOf xs from least
    → IsLeastOf (xs ++ e ∷ []) from (lesser from least e.slice)
least_more xs from None e is = least_from_none xs from e is
least_more xs from (Some n) e is = least_from_some xs from n e is

pub least_at : (xs : List Entry) (i : ℕ) (d : Entry) (from : ℕ) (least now : Option ℕ)
    → i < length xs
    → IsLeastOf (take i xs) from least
    → now ≡ lesser from least (get_or xs i d).slice → IsLeastOf (take (i + 1) xs) from now
least_at xs i d from least now within is next =
    rw (next, take_more xs i d within) (least_more (take i xs) from least (get_or xs i d) is)

-- the CRC-32s of sorted entries are increasing
pub crcs_rise : (entries : List Entry) → IsSorted entry_cmp entries → (i j : ℕ) (d : Entry) → i ≤ j
    → j < length entries
    → (get_or entries i d).crc ≤ (get_or entries j d).crc
crcs_rise entries rises i j d up within =
    let far = sorted_far (λ x y. is_lt (on (λ (e : Entry). e.crc) nat_cmp x y))
    (ranks_by nat_cmp_total (λ (e : Entry). e.crc)) entries (crc_rises entries rises)
    i j d up within in
    elim (cases_lt (get_or entries j d).crc (get_or entries i d).crc) [
      | inl less ↦
          let lower : is_lt (nat_cmp (get_or entries j d).crc (get_or entries i d).crc) ≡ true =
          rw (lt-ltb (get_or entries j d).crc (get_or entries i d).crc less) refl in
          let wrong : false ≡ true = sym far ∙ lower in
          cc
      | inr not_less ↦ omega arith
    ]

pub parted_below : (entries : List Entry) (c : ℕ) → IsSorted entry_cmp entries
    → IsPartitionedBy (λ (e : Entry). nat_lt e.crc c) entries
parted_below entries c rises i j d up within lower =
    let less : (get_or entries j d).crc < c = grind (arith, nat_tests) in
    let up_to = crcs_rise entries rises i j d up within in
    lt-ltb (get_or entries i d).crc c (omega (arith, less, up_to))

-- the entries from index `start` on: it is the index of the first entry whose CRC-32 is not below c
module _ (entries : List Entry) (c start : ℕ) (rises : IsSorted entry_cmp entries)
    (first : IsPartitionPoint (λ (y : Entry). nat_lt y.crc c ≡ true)
    (λ (y : Entry). nat_lt y.crc c ≡ false)
    entries start) where
  not_below : (k : ℕ) (d : Entry) → k < length (drop start entries)
      → c ≤ (get_or (drop start entries) k d).crc
  not_below k d within =
      let inside : start + k < length entries = omega (arith, length-drop start entries) in
      let high = first.1 (start + k) d (omega arith) inside in
      rw get_or-drop (let no : nat_lt (get_or entries (start + k) d).crc c ≡ false = high in
      grind (arith, nat_tests))

  pub parted_same : IsPartitionedBy (λ (e : Entry). eqb e.crc c) (drop start entries)
  parted_same i j d up within same =
      let is : (get_or (drop start entries) j d).crc ≡ c =
      eqb-true (get_or (drop start entries) j d).crc c same in
      let inside : start + j < length entries = omega (arith, length-drop start entries) in
      let rise : (get_or (drop start entries) i d).crc ≤ (get_or (drop start entries) j d).crc =
      rw (get_or-drop start entries i d, get_or-drop start entries j d)
      (crcs_rise entries rises (start + i) (start + j) d (omega arith) inside) in
      eq-eqb (get_or (drop start entries) i d).crc c
      (omega (arith, rise, is, not_below i d (omega arith)))

  none_before : (k : ℕ) (d : Entry) → 0 ≤ k → k < start → eqb (get_or entries k d).crc c ≡ false
  none_before k d low high =
      let less : nat_lt (get_or entries k d).crc c ≡ true = first.0 k d low high in
      grind (arith, nat_tests)

  behind : (k : ℕ) (d : Entry) → start ≤ k
      → get_or (drop start entries) (k - start) d ≡ get_or entries k d
  behind k d low =
      let back : start + (k - start) ≡ k = omega arith in
      get_or-drop start entries (k - start) d ∙ ap (λ m. get_or entries m d) back

  pub with_crc_is : start ≤ length entries → (count : ℕ) → count ≤ length (drop start entries)
      → IsPartitionPoint (λ (y : Entry). eqb y.crc c ≡ true) (λ (y : Entry). eqb y.crc c ≡ false)
      (drop start entries) count
      → take count (drop start entries) ≡ filter (entry_has_crc c) entries
  with_crc_is inside count few second =
      filter_between (entry_has_crc c) entries start count (omega (arith, length-drop start entries))
      none_before
      (λ k d low high. rw (behind k d low) at (second.0 (k - start) d (omega arith) (omega arith)))
      (λ k d low high. rw (behind k d (omega arith)) at
      (second.1 (k - start) d (omega arith) (omega (arith, length-drop start entries))))

-- the least number among the entries with a CRC-32 is the least number of a slice that has it
pub next_crc_is : (slices : List SetSlice) (entries found : List Entry) (c from : ℕ)
    (least : Option ℕ)
    → IsIndexOf slices entries
    → AreWithCrc entries c found → IsLeastOf found from least
    → IsLeastFrom (slice_passes slices (has_known_crc c)) from least
next_crc_is slices entries found c from None ix those is =
    λ k above has.
    let d = has_crc_at slices k c has in
    let there = those.complete (entry_of c d.0 k) (ix.complete k c d.0 d.1) refl in
    let below : k < from = All-contains (λ (e : Entry). e.slice < from) found (entry_of c d.0 k)
    is there in
    omega arith
next_crc_is slices entries found c from (Some n) ix those is =
    let e = is.1.0 in
    let tied = All-contains (λ e. Contains entries e × (e.crc ≡ c)) found e those.sound is.1.1.0 in
    let has : HasSums slices e.slice e.crc e.digest =
    All-contains (λ (x : Entry). HasSums slices x.slice x.crc x.digest) entries e ix.sound tied.0 in
    record {
      at_or_above = is.0;
      passes = crc_at slices n c e.digest (rw (← is.1.1.1, ← tied.1) has);
      least = λ k above less has_k.
          let d = has_crc_at slices k c has_k in
          let there = those.complete (entry_of c d.0 k) (ix.complete k c d.0 d.1) refl in
          let up = All-contains (λ (x : Entry). from ≤ x.slice → n ≤ x.slice) found
          (entry_of c d.0 k) is.2
          there above in
          omega arith;
    }
