-- The index at which the entries of each key begin.
use Rattle.std.proofs.Common.{◌≡◌, ℕ, ◌+◌, ◌-◌, ◌<◌, ◌≤◌, List, [], ◌∷◌, ◌++◌, length, get_or, eq-eqb, ne_eqb, refl, ap, ◌∙◌, inl, inr, arith, below_more, length-append}
use Rattle.std.specs.List.{filter}
use Rattle.std.specs.List.Sorted.{IsSorted}
use Rattle.std.proofs.lemmas.Bool.{cases_lt, eqb-true}
use Rattle.std.proofs.lemmas.List.{get_or_append_left, get_or-append-add}
use Rattle.parwindow.specs.declared.slices.entries.Entry.{Entry}
use Rattle.parwindow.specs.Directory.{key_count, key_of, entry_has_key, AreStarts, BeginsKey, IsPart}
use Rattle.parwindow.specs.Entries.{entry_cmp, entry_has_crc}
use Rattle.parwindow.proofs.ListLaws.{filter_between, filter_twice}
use Rattle.parwindow.proofs.slice_laws.LeastFromLaws.{crcs_rise}

-- the keys of sorted entries are increasing
pub keys_rise : (entries : List Entry) → IsSorted entry_cmp entries → (i j : ℕ) (d : Entry) → i ≤ j
    → j < length entries
    → key_of (get_or entries i d).crc ≤ key_of (get_or entries j d).crc
keys_rise entries rises i j d up within =
    omega (arith, crcs_rise entries rises i j d up within)

-- the entries of key 0 begin at index 0
pub begins_first : (entries : List Entry) → BeginsKey entries 0 0
begins_first entries = record {
  within = omega arith;
  before = λ k d low high. absurd (omega arith);
  after = λ k d low high. omega arith;
}

-- the entries of the next key begin at the first entry that has another key
pub begins_next : (entries : List Entry) (key from at : ℕ) → IsSorted entry_cmp entries
    → BeginsKey entries key from
    → from ≤ at
    → at < length entries
    → ((k : ℕ) (d : Entry) → from ≤ k → k < at → key_of (get_or entries k d).crc ≡ key)
    → ((d : Entry) → key_of (get_or entries at d).crc ≡ key → ⊥)
    → BeginsKey entries (key + 1) at
begins_next entries key from at rises first up within same other = record {
  within = omega arith;
  before = λ k d low high. elim (cases_lt k from) [
    | inl early ↦ omega (arith, first.before k d low early)
    | inr late ↦ omega (arith, same k d late high)
  ];
  after = λ k d low high.
      let here = first.after at d up within in
      let more : key < key_of (get_or entries at d).crc = omega (arith, here, other d) in
      omega (arith, more, keys_rise entries rises at k d low high);
}

-- if all entries from an index on have this key, the entries of the next key begin
-- at the end of the list
pub begins_end : (entries : List Entry) (key from : ℕ) → BeginsKey entries key from
    → ((k : ℕ) (d : Entry) → from ≤ k → k < length entries
    → key_of (get_or entries k d).crc ≡ key)
    → BeginsKey entries (key + 1) (length entries)
begins_end entries key from first same = record {
  within = omega arith;
  before = λ k d low high. elim (cases_lt k from) [
    | inl early ↦ omega (arith, first.before k d low early)
    | inr late ↦ omega (arith, same k d late high)
  ];
  after = λ k d low high. absurd (omega arith);
}

-- the entries of a key are those between the index at which it begins and the index at
-- which the next key begins
part_is : (entries : List Entry) (key from to : ℕ) → from ≤ to → BeginsKey entries key from
    → BeginsKey entries (key + 1) to
    → IsPart entries key from to
part_is entries key from to up first next =
    let back : from + (to - from) ≡ to = omega arith in
    record {
      rises = up;
      within = next.within;
      part = filter_between (entry_has_key key) entries from (to - from) (omega (arith, next.within))
          (λ k d low high.
          ne_eqb (key_of (get_or entries k d).crc) key
          (λ same. absurd (omega (arith, first.before k d low high, same))))
          (λ k d low high.
          eq-eqb (key_of (get_or entries k d).crc) key
          (omega (
            arith,
            first.after k d low (omega (arith, next.within)),
            next.before k d (omega arith) (omega arith),
          )))
          (λ k d low high.
          ne_eqb (key_of (get_or entries k d).crc) key
          (λ same. absurd (omega (arith, next.after k d (omega arith) high, same))));
    }

-- the list has the index at which each key up to `key` begins, and the last of these is `at`
pub record StartsSoFar (entries : List Entry) (starts : List ℕ) (key at : ℕ) : Type 0 where
  pub each : length starts ≡ key + 1
  pub last : get_or starts key 0 ≡ at
  pub begins : BeginsKey entries key at
  pub parts : (k : ℕ) → k < key → IsPart entries k (get_or starts k 0) (get_or starts (k + 1) 0)

pub starts_none : (entries : List Entry) → StartsSoFar entries (0 ∷ []) 0 0
starts_none entries = record {
  each = refl;
  last = refl;
  begins = begins_first entries;
  parts = λ k below. absurd (omega arith);
}

pub starts_more : (entries : List Entry) (starts : List ℕ) (key at next : ℕ)
    → StartsSoFar entries starts key at
    → at ≤ next → BeginsKey entries (key + 1) next
    → StartsSoFar entries (starts ++ next ∷ []) (key + 1) next
starts_more entries starts key at next so_far up begins =
    let place : length starts + 0 ≡ key + 1 = omega (arith, so_far.each) in
    let now : get_or (starts ++ next ∷ []) (key + 1) 0 ≡ next =
    rw place at (get_or-append-add starts (next ∷ []) 0 0) in
    let kept : (k : ℕ) → k < key + 1 → get_or (starts ++ next ∷ []) k 0 ≡ get_or starts k 0 =
    λ k early. get_or_append_left starts (next ∷ []) 0 k (omega (arith, so_far.each)) in
    record {
      each = omega (arith, so_far.each, length-append starts (next ∷ []));
      last = now;
      begins = begins;
      parts = below_more (λ k. IsPart entries k (get_or (starts ++ next ∷ []) k 0)
          (get_or (starts ++ next ∷ []) (k + 1) 0)) key
          (λ k early. rw (kept k (omega arith), kept (k + 1) (omega arith)) (so_far.parts k early))
          (rw (kept key (omega arith), now, so_far.last)
          (part_is entries key at next up so_far.begins begins));
    }

pub starts_all : (entries : List Entry) (starts : List ℕ) (key at : ℕ) → key ≡ key_count
    → StartsSoFar entries starts key at
    → AreStarts entries starts
starts_all entries starts key at whole so_far = record {
  each = so_far.each ∙ ap (λ k. k + 1) whole;
  parts = λ k below. so_far.parts k (omega (arith, whole));
}

-- the entries with a CRC-32 are among those with its key
pub crc_in_part : (entries : List Entry) (c : ℕ)
    → filter (entry_has_crc c) (filter (entry_has_key (key_of c)) entries)
    ≡ filter (entry_has_crc c) entries
crc_in_part entries c =
    filter_twice (entry_has_key (key_of c)) (entry_has_crc c)
    (λ e same. eq-eqb (key_of e.crc) (key_of c) (ap key_of (eqb-true e.crc c same))) entries
