-- The result of a binary search among the entries of an index.
use Rattle.std.proofs.Common.{◌≡◌, ℕ, ◌<◌, ◌≤◌, List, length, get_or, Ok, Err, Ordering, Less, Equal, Greater, false, true, refl, sym, ◌∙◌, arith, inl, inr}
use Rattle.std.specs.Ordering.{nat_cmp, then_cmp, on, ordering_then, is_lt}
use Rattle.std.specs.Cmp.Lexicographic.{slice_cmp}
use Rattle.std.specs.List.Sorted.{IsSorted, IsSearchInRange, IsBinarySearchResult}
use Rattle.std.proofs.lemmas.Bool.{cases_lt, lt-ltb}
use Rattle.std.proofs.lemmas.Cmp.{nat_cmp_total, nat_list_cmp_total, tied_itself, tied_back, alike_right, ranked, on_total}
use Rattle.std.proofs.lemmas.List.{get_or_default}
use Rattle.std.proofs.lemmas.Slice.Eq.{slice_eq-Decides}
use Rattle.std.proofs.lemmas.Bool.Decides.{Decides-eqb}
use Rattle.std.specs.Cmp.Lexicographic.{pointwise}
use Rattle.std.proofs.Common.{eqb}
use Rattle.std.proofs.lemmas.List.Sorted.{searchable_from_sorted, sorted_far, ranks_by}
use Rattle.parset.specs.declared.recovery_set.SetSlice.{SetSlice}
use Rattle.parwindow.specs.declared.slices.entries.Entry.{Entry}
use Rattle.parwindow.specs.Index.{slice_passes, has_sums}
use Rattle.parwindow.specs.Least.{IsLeast}
use Rattle.parwindow.specs.Entries.{entry_cmp, HasAllOf, HasSums, IsFloor}
use Rattle.parwindow.proofs.slice_laws.OrderLaws.{entry_cmp_total, nat_cmp-equal, slice_cmp-equal, squeezed}

abbrev pub entry_of : ℕ → List ℕ → ℕ → Entry
entry_of c d n = record { crc = c; digest = d; slice = n }

is_lt-false : (o : Ordering) → is_lt o ≡ false → o ≡ Less → ⊥
is_lt-false o h e = let p : is_lt Less ≡ false = rw e at h in cc

module _ (entries : List Entry) (rises : IsSorted entry_cmp entries) (t : Entry) where
  pub floor_from_ok : (at : ℕ) → IsSearchInRange (Ok at) (length entries)
      → IsBinarySearchResult (λ y. entry_cmp y t) entries (Ok at) → IsFloor entries t at
  floor_from_ok at range here = record {
    not_below = λ e below less. let q = here e in cc;
    first = λ x e there above. (
      range,
      λ less. above
          (alike_right entry_cmp_total t (get_or entries at e) x
          (tied_back entry_cmp_total (get_or entries at e) t (here e)) ∙ less),
    );
  }

  pub floor_from_err : (at : ℕ) → IsSearchInRange (Err at) (length entries)
      → IsBinarySearchResult (λ y. entry_cmp y t) entries (Err at) → IsFloor entries t at
  floor_from_err at range parted =
      let halves = parted (searchable_from_sorted entry_cmp_total (λ (e : Entry). e)
      entries t rises) in
      record {
        not_below = λ e below less. let q = halves.1 at e (omega arith) below in cc;
        first = λ x e there above.
            let j = there.0 in
            elim (cases_lt j at) [
              | inl before ↦ absurd (above (rw (there.2) at (halves.0 j x (omega arith) before)))
              | inr after ↦
                  let inside : j < length entries = there.1 in (
                    omega arith,
                    λ less.
                        let far = sorted_far (λ x y. is_lt (entry_cmp x y))
                        (ranks_by entry_cmp_total (λ (e : Entry). e))
                        entries rises at j e after inside in
                        let here : get_or entries j e ≡ x = get_or_default entries j e x inside
                        ∙ there.2 in
                        is_lt-false (entry_cmp (get_or entries j e) (get_or entries at e)) far
                        (rw here less),
                  )
            ];
      }

-- two entries that have the same checksums are ordered by their slice numbers
pub entry_cmp-same : (c : ℕ) (d : List ℕ) (m n : ℕ)
    → entry_cmp (entry_of c d m) (entry_of c d n) ≡ nat_cmp m n
entry_cmp-same c d m n = rw (tied_itself nat_cmp_total c, tied_itself nat_list_cmp_total d) refl

nat_cmp-less : (m n : ℕ) → m < n → nat_cmp m n ≡ Less
nat_cmp-less m n h = rw (lt-ltb m n h) refl

nat_cmp-not_less : (m n : ℕ) → n ≤ m → nat_cmp m n ≡ Less → ⊥
nat_cmp-not_less m n h e = let p : m < n = ranked m n Less (sym e) in omega arith

module _ (slices : List SetSlice) (entries : List Entry) (c : ℕ) (d : List ℕ)
    (ix : HasAllOf slices c d entries)
    (from at : ℕ)
    (lowest : IsFloor entries (entry_of c d from) at) where
  -- the entry of a slice that has these checksums, and a number from `from` on, is at
  -- index `at` or after it
  reaches : (n : ℕ) (e : Entry) → from ≤ n → HasSums slices n c d
      → (at < length entries) × (entry_cmp (entry_of c d n) (get_or entries at e) ≡ Less → ⊥)
  reaches n e above has =
      lowest.first (entry_of c d n) e (ix.complete n has)
      (λ less. nat_cmp-not_less n from above (sym (entry_cmp-same c d n from) ∙ less))

  pub next_found : (e : Entry) → at < length entries → get_or entries at e ≡ e → e.crc ≡ c
      → e.digest ≡ d
      → IsLeast (slice_passes slices (has_sums (record { 0 = d }, c))) from e.slice
  next_found e inside here same_crc same_digest =
      let is : e ≡ entry_of c d e.slice = rw (← same_crc, ← same_digest) refl in
      record {
        at_or_above = elim (cases_lt e.slice from) [
          | inl below ↦ absurd
              (lowest.not_below e inside
              (rw (here, is) (entry_cmp-same c d e.slice from ∙ nat_cmp-less e.slice from below)))
          | inr above ↦ above
        ];
        passes = rw (← same_crc, ← same_digest) (rw here at (ix.sound at e inside));
        least = λ k above below has. (reaches k e above has).1
            (rw (here, is) (entry_cmp-same c d k e.slice ∙ nat_cmp-less k e.slice below));
      }

  pub none_past : length entries ≤ at → (n : ℕ) → from ≤ n → HasSums slices n c d → ⊥
  none_past past n above has = let inside = (reaches n (entry_of c d n) above has).0 in omega arith

  pub none_other : (e : Entry) → at < length entries → get_or entries at e ≡ e
      → (e.crc ≡ c → e.digest ≡ d → ⊥)
      → (n : ℕ) → from ≤ n → HasSums slices n c d → ⊥
  none_other e inside here other n above has =
      let x = entry_of c d n in
      let t = entry_of c d from in
      let by_digest = on (λ (e : Entry). e.digest) (slice_cmp nat_cmp) in
      let by_slice = on (λ (e : Entry). e.slice) nat_cmp in
      let first = squeezed (on (λ (e : Entry). e.crc) nat_cmp) (then_cmp by_digest by_slice)
      (on_total (λ (e : Entry). e.crc) nat_cmp_total) e t x (tied_itself nat_cmp_total c)
      (λ less. lowest.not_below e inside (rw here less))
      (λ less. (reaches n e above has).1 (rw here less)) in
      let second = squeezed by_digest by_slice (on_total (λ (e : Entry). e.digest)
      nat_list_cmp_total) e t x
      (tied_itself nat_list_cmp_total d) first.1 first.2 in
      other (nat_cmp-equal e.crc c first.0) (slice_cmp-equal e.digest d second.0)

pub same_bytes : (xs ys : List ℕ) → true ≡ pointwise eqb xs ys → xs ≡ ys
same_bytes xs ys h = (slice_eq-Decides Decides-eqb xs ys true h).0 refl

pub other_bytes : (xs ys : List ℕ) → false ≡ pointwise eqb xs ys → xs ≡ ys → ⊥
other_bytes xs ys h e = let q = (slice_eq-Decides Decides-eqb xs ys false h).1 e in cc

-- if entries are sorted, so are their CRC-32s
first_not_less : (o p : Ordering) → is_lt (ordering_then o p) ≡ false → is_lt o ≡ false
first_not_less Less p h = h
first_not_less Equal p h = refl
first_not_less Greater p h = refl

pub crc_rises : (entries : List Entry) → IsSorted entry_cmp entries
    → IsSorted (on (λ (e : Entry). e.crc) nat_cmp) entries
crc_rises entries rises k d low high = first_not_less _ _ (rises k d low high)
