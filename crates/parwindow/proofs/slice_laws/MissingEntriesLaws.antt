-- The entries of the slices that aren't found.
use Rattle.std.proofs.Common.{◌≡◌, ℕ, ◌<◌, Bool, true, not, ◌&&◌, cond, get_or, List, [], ◌∷◌, length, map, refl, sym, ap, ◌∙◌}
use Rattle.std.specs.Prelude.{All, zip}
use Rattle.std.specs.List.{count_by, filter, range_with_len}
use Rattle.std.specs.List.Sorted.{IsSorted}
use Rattle.std.specs.Ordering.{is_lt}
use Rattle.std.proofs.lemmas.Bool.{and_from, and_parts}
use Rattle.std.proofs.lemmas.List.Elements.{All-filter, filter_passes}
use Rattle.std.proofs.lemmas.List.Sorted.{ranks_by}
use Rattle.std.proofs.lemmas.List.Sums.{sum_by-cons}
use Rattle.parset.specs.declared.recovery_set.SetSlice.{SetSlice}
use Rattle.parwindow.specs.declared.slices.entries.Entry.{Entry}
use Rattle.parwindow.specs.Entries.{IsEntryOf, IsIndexOf, entry_cmp, entry_has_crc, is_unfound}
use Rattle.parwindow.specs.Index.{has_known_crc, has_sums, slice_passes}
use Rattle.parwindow.specs.Missing.{found_at, unless_found}
use Rattle.parwindow.proofs.ListLaws.{contains_filter, count_agree, count_filter, count_range_rest, sorted_filter}
use Rattle.parwindow.proofs.slice_laws.KnownSumsLaws.{passes_within}
use Rattle.parwindow.proofs.slice_laws.OrderLaws.{entry_cmp_total}
use Rattle.parwindow.proofs.slice_laws.SearchLaws.{entry_of}
use Rattle.parwindow.proofs.slice_laws.UnlessFoundLaws.{and_assoc, and_swap, length-unless_found, passes_unless_found}

-- the number of slices that pass a test is the number of slice numbers that pass it
pub count_numbers : (test : SetSlice → Bool) (slices : List SetSlice)
    → count_by (slice_passes slices test) (range_with_len 0 (length slices)) ≡ count_by test slices
count_numbers test [] = refl
count_numbers test (s ∷ ss) =
    sum_by-cons (λ n. cond (slice_passes (s ∷ ss) test n) 1 0) 0 (range_with_len 1 (length ss))
    ∙ (rw (count_range_rest (slice_passes (s ∷ ss) test) 0 (length ss), count_numbers test ss) refl)
    ∙ sym (sum_by-cons (λ x. cond (test x) 1 0) s ss)

-- the number of entries that have a CRC-32 is the number of slices that have it
pub count_slices : (slices : List SetSlice) (entries : List Entry) (c : ℕ) → IsIndexOf slices entries
    → count_by (entry_has_crc c) entries ≡ count_by (has_known_crc c) slices
count_slices slices entries c ix = ix.counts (λ n. true) c ∙ count_numbers (has_known_crc c) slices

pub missing_rises : (entries : List Entry) (found : List Bool) → IsSorted entry_cmp entries
    → IsSorted entry_cmp (filter (is_unfound found) entries)
missing_rises entries found =
    sorted_filter (λ x y. is_lt (entry_cmp x y)) (ranks_by entry_cmp_total (λ (e : Entry). e))
    (is_unfound found) entries

-- each entry belongs to a slice
pub entries_within : (slices : List SetSlice) (entries : List Entry) → IsIndexOf slices entries
    → All (λ (e : Entry). e.slice < length slices) entries
entries_within slices entries ix k d within =
    let e = get_or entries k d in
    passes_within (has_sums (record { 0 = e.digest }, e.crc)) slices e.slice (ix.sound k d within)

-- the entries of the slices that aren't found index the set in which all other
-- slices have no checksums
pub missing_index : (slices : List SetSlice) (found : List Bool) (entries : List Entry)
    → length found ≡ length slices
    → IsIndexOf slices entries
    → IsIndexOf (map unless_found (zip slices found)) (filter (is_unfound found) entries)
missing_index slices found entries each ix = record {
  sound = λ k d within.
      let e = get_or (filter (is_unfound found) entries) k d in
      let has = All-filter (is_unfound found) (IsEntryOf slices) entries ix.sound k d within in
      let left = filter_passes (is_unfound found) entries k d within in
      rw (passes_unless_found (has_sums (record { 0 = e.digest }, e.crc)) (λ s. refl) slices found
      e.slice each)
      (and_from (is_unfound found e)
      (slice_passes slices (has_sums (record { 0 = e.digest }, e.crc)) e.slice) left has);
  complete = λ n c d has.
      let sums = passes_unless_found (has_sums (record { 0 = d }, c)) (λ s. refl) slices found n each
      in
      let parts = and_parts (not (found_at found n))
      (slice_passes slices (has_sums (record { 0 = d }, c)) n) (rw sums at has) in
      let there = ix.complete n c d parts.1 in
      contains_filter (is_unfound found) entries (entry_of c d n) parts.0 there.0 there.1 there.2;
  counts = λ test c.
      let both = λ (n : ℕ). not (found_at found n) && test n in
      let numbers = count_agree (λ n. both n && slice_passes slices (has_known_crc c) n)
      (λ n. test n && slice_passes (map unless_found (zip slices found)) (has_known_crc c) n)
      (λ n. and_swap (not (found_at found n)) (test n) (slice_passes slices (has_known_crc c) n)
      ∙ ap (λ b. test n && b)
      (sym (passes_unless_found (has_known_crc c) (λ s. refl) slices found n each)))
      (range_with_len 0 (length slices)) in
      count_filter (is_unfound found) (λ e. test e.slice && entry_has_crc c e)
      (λ e. both e.slice && entry_has_crc c e)
      (λ e. and_assoc (is_unfound found e) (test e.slice) (entry_has_crc c e)) entries
      ∙ ix.counts both c
      ∙ numbers
      ∙ ap (λ n. count_by
      (λ k. test k && slice_passes (map unless_found (zip slices found)) (has_known_crc c) k)
      (range_with_len 0 n)) (sym (length-unless_found slices found each));
}
