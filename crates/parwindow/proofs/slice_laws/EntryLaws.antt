-- The entries of an index, with one slice more at a time, and in another order.
use Rattle.std.proofs.Common.{◌≡◌, ℕ, ◌+◌, ◌<◌, ◌≤◌, get_or, List, [], ◌∷◌, ◌++◌, length, Some, None, cond, arith, inl, inr, refl, sym, ◌∙◌, length-append, Bool, false, eqb, ◌&&◌, add-zero}
use Rattle.std.specs.Prelude.{All, Contains}
use Rattle.std.specs.List.{count_by, range_with_len}
use Rattle.std.specs.List.Sorted.{IsPermutation}
use Rattle.std.proofs.lemmas.Bool.{cases_lt}
use Rattle.std.proofs.lemmas.Option.{slice_get-get_or}
use Rattle.parwindow.specs.Index.{has_known_crc, has_sums, slice_passes}
use Rattle.parwindow.proofs.ListLaws.{count_range_more}
use Rattle.parwindow.proofs.slice_laws.UnlessFoundLaws.{and_false}
use Rattle.std.proofs.lemmas.List.Elements.{All-push, Contains-push, Contains-append_left}
use Rattle.std.proofs.lemmas.List.Sums.{sum_by_push}
use Rattle.std.proofs.lemmas.List.Sorted.{All-permutation, Contains-permutation, sum_by-IsPermutation}
use Rattle.parfield.specs.declared.hash16.Hash16.{Hash16}
use Rattle.parset.specs.declared.recovery_set.SetSlice.{SetSlice}
use Rattle.parwindow.specs.declared.slices.entries.Entry.{Entry}
use Rattle.parwindow.specs.Entries.{IsEntryOf, IsIndexOf, HasSums, entry_has_crc}
use Rattle.parwindow.proofs.slice_laws.SearchLaws.{entry_of}
use Rattle.parwindow.proofs.slice_laws.KnownSumsLaws.{sums_none, sums_same, sums_known, passes_within}

-- the entries of the slices below `number`: each such slice with known checksums has its entry,
-- each entry belongs to one, and for each CRC-32 there is one entry for each of them that has it,
-- whatever test the numbers pass
pub record IndexSoFar (slices : List SetSlice) (number : ℕ) (entries : List Entry) : Type 0 where
  pub sound : All (IsEntryOf slices) entries
  pub complete : (n crc : ℕ) (digest : List ℕ) → n < number → HasSums slices n crc digest
      → Contains entries (entry_of crc digest n)
  pub counts : (test : ℕ → Bool) (crc : ℕ)
      → count_by (λ e. test e.slice && entry_has_crc crc e) entries
      ≡ count_by (λ n. test n && slice_passes slices (has_known_crc crc) n) (range_with_len 0 number)
  pub few : length entries ≤ number

pub index_all : (slices : List SetSlice) (xs : List Entry) (n : ℕ) → n ≡ length slices
    → IndexSoFar slices n xs → IsIndexOf slices xs
index_all slices xs n whole ix = record {
  sound = ix.sound;
  complete = λ k c d has. ix.complete k c d
      (omega (arith, passes_within (has_sums (record { 0 = d }, c)) slices k has)) has;
  counts = λ test c. rw (← whole) (ix.counts test c);
}

-- a slice whose checksums aren't known adds no entry
pub index_skip : (slices : List SetSlice) (xs : List Entry) (n : ℕ) (d : SetSlice)
    → n < length slices
    → (get_or slices n d).sums ≡ None
    → IndexSoFar slices n xs → IndexSoFar slices (n + 1) xs
index_skip slices xs n empty within unknown ix = record {
  sound = ix.sound;
  complete = λ k c d below has. elim (cases_lt k n) [
    | inl before ↦ ix.complete k c d before has
    | inr last ↦
        let e : k ≡ n = omega arith in
        absurd (sums_none slices n c d (get_or slices n empty)
        (slice_get-get_or slices n empty within) unknown
        (rw e at has))
  ];
  counts = λ test c.
      let here = slice_get-get_or slices n empty within in
      let more = count_range_more (λ k. test k && slice_passes slices (has_known_crc c) k) n in
      let none : (test n && slice_passes slices (has_known_crc c) n) ≡ false =
      rw (here, unknown) (and_false (test n)) in
      ix.counts test c ∙ sym (more ∙ (rw none (add-zero _)));
  few = omega (arith, ix.few);
}

-- a slice whose checksums are known adds its entry
pub index_push : (slices : List SetSlice) (xs : List Entry) (n : ℕ) (d : SetSlice) (md5 : Hash16)
    (sum : ℕ)
    → n < length slices
    → (get_or slices n d).sums ≡ Some (md5, sum) → IndexSoFar slices n xs
    → IndexSoFar slices (n + 1) (xs ++ entry_of sum md5.0 n ∷ [])
index_push slices xs n empty md5 sum within known ix = record {
  sound = All-push (IsEntryOf slices) xs (entry_of sum md5.0 n) ix.sound
      (sums_known slices n (get_or slices n empty) md5 sum (slice_get-get_or slices n empty within)
      known);
  complete = λ k c d below has. elim (cases_lt k n) [
    | inl before ↦ Contains-append_left xs (entry_of sum md5.0 n ∷ []) (entry_of c d k)
        (ix.complete k c d before has)
    | inr last ↦
        let e : k ≡ n = omega arith in
        let same = sums_same slices n c d (get_or slices n empty) md5 sum
        (slice_get-get_or slices n empty within) known (rw e at has) in
        rw (e, same.0, same.1) (Contains-push xs (entry_of c d n))
  ];
  counts = λ test c.
      let here = slice_get-get_or slices n empty within in
      let more = count_range_more (λ k. test k && slice_passes slices (has_known_crc c) k) n in
      let same : slice_passes slices (has_known_crc c) n ≡ eqb sum c = rw (here, known) refl in
      sum_by_push (λ e. cond (test e.slice && entry_has_crc c e) 1 0) xs (entry_of sum md5.0 n)
      ∙ (rw (ix.counts test c, more, same) refl);
  few = omega (arith, ix.few, length-append xs (entry_of sum md5.0 n ∷ []));
}

-- the same entries in another order are the entries of the same slices
pub index_moved : (slices : List SetSlice) (xs ys : List Entry) → IsPermutation xs ys
    → IsIndexOf slices xs
    → IsIndexOf slices ys
index_moved slices xs ys moved ix = record {
  sound = All-permutation (IsEntryOf slices) xs ys moved ix.sound;
  complete = λ n c d has. Contains-permutation xs ys (entry_of c d n) moved (ix.complete n c d has);
  counts = λ test c.
      sum_by-IsPermutation (λ e. cond (test e.slice && entry_has_crc c e) 1 0) xs ys moved
      ∙ ix.counts test c;
}
