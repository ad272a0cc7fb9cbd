-- The slices that have a CRC-32 and fit into the rest of a file, and their entries.
use Rattle.std.proofs.Common.{◌≡◌, ℕ, zero, suc, ◌<◌, ◌≤◌, Bool, true, false, not, nat_le, eqb, eq-eqb, ◌&&◌, List, [], ◌∷◌, length, get_or, refl, sym, ap, ◌∙◌, arith, inl, inr, zero-add}
use Rattle.std.specs.Prelude.{All, Contains}
use Rattle.std.specs.List.{list_any, range_with_len}
use Rattle.std.proofs.lemmas.Bool.{eqb-true, and_parts, and_from, cases_Bool, le-leb, leb-true, false_from_ne_true}
use Rattle.std.proofs.Math.Dec.{leb-zero}
use Rattle.std.proofs.lemmas.List.Elements.{All-contains}
use Rattle.std.proofs.lemmas.List.Folds.{Any-from_list_any, list_any-from_Any, list_any_at}
use Rattle.std.proofs.lemmas.List.FromFn.{length-range_with_len, get_or-range_with_len}
use Rattle.parset.specs.declared.recovery_set.SetSlice.{SetSlice}
use Rattle.parwindow.specs.declared.slices.entries.Entry.{Entry}
use Rattle.parwindow.specs.Entries.{HasSums, IsIndexOf, is_between, is_open}
use Rattle.parwindow.specs.Index.{has_known_crc, has_own, has_sums, slice_passes}
use Rattle.parwindow.specs.Missing.{has_fit_crc_of, has_unfound, found_at}
use Rattle.parwindow.proofs.slice_laws.HasOpenLaws.{between}
use Rattle.parwindow.proofs.slice_laws.SearchLaws.{entry_of}
use Rattle.parwindow.proofs.slice_laws.WithCrcLaws.{AreWithCrc}
use Rattle.parwindow.proofs.slice_laws.KnownSumsLaws.{crc_at, has_crc_at, passes_within, same_bools}

-- if a number below n passes a test, some number below n does
any_below : (p : ℕ → Bool) (n k : ℕ) → k < n → p k ≡ true → list_any p (range_with_len 0 n) ≡ true
any_below p n k below h =
    list_any_at p (range_with_len 0 n) k 0 (omega (arith, length-range_with_len 0 n))
    (ap p (get_or-range_with_len 0 n k 0 below ∙ zero-add k) ∙ h)

below_any : (p : ℕ → Bool) (n : ℕ) → list_any p (range_with_len 0 n) ≡ true → (k : ℕ) × (k < n)
    × (p k ≡ true)
below_any p n h =
    let some = Any-from_list_any p (range_with_len 0 n) h in
    let below : some.0 < n = omega (arith, some.2, length-range_with_len 0 n) in (
      some.0,
      below,
      ap p (sym (zero-add some.0)
          ∙ sym (get_or-range_with_len 0 n some.0 some.1 below) ∙ some.3) ∙ some.4,
    )

-- slice n has the CRC-32 and passes another test; `whole` is the test for both
module _ (whole test : SetSlice → Bool) (c : ℕ)
    (both : (s : SetSlice) → whole s ≡ (has_known_crc c s && test s)) where
  pub passes_both : (slices : List SetSlice) (n : ℕ)
      → slice_passes slices (has_known_crc c) n ≡ true
      → slice_passes slices test n ≡ true → slice_passes slices whole n ≡ true
  passes_both [] n has fits = has
  passes_both (s ∷ ss) zero has fits = both s ∙ and_from (has_known_crc c s) (test s) has fits
  passes_both (s ∷ ss) (suc n) has fits = passes_both ss n has fits

  pub passes_parts : (slices : List SetSlice) (n : ℕ) → slice_passes slices whole n ≡ true
      → (slice_passes slices (has_known_crc c) n ≡ true) × (slice_passes slices test n ≡ true)
  passes_parts [] n h = (h, h)
  passes_parts (s ∷ ss) zero h = and_parts (has_known_crc c s) (test s) (sym (both s) ∙ h)
  passes_parts (s ∷ ss) (suc n) h = passes_parts ss n h

-- if no slice has the CRC-32, none has it and fits
pub no_fit : (slices : List SetSlice) (c left : ℕ) → list_any (has_known_crc c) slices ≡ false
    → list_any (has_fit_crc_of c left) slices ≡ false
no_fit [] c left h = refl
no_fit (s ∷ ss) c left h = elim (cases_Bool (has_known_crc c s)) [
  | inl here ↦ let wrong : true ≡ false = rw here at h in cc
  | inr other ↦ rw other (no_fit ss c left (rw other at h))
]

-- a slice fits if its length is from 0 to `left`
pub fits_between : (c left : ℕ) (s : SetSlice)
    → has_fit_crc_of c left s ≡ (has_known_crc c s && is_between 0 left s)
fits_between c left s = rw leb-zero refl

-- a slice fits and has the length `own` if its length is from `own` to `own`
pub own_between : (c own left : ℕ) → own ≤ left → (s : SetSlice)
    → has_own own (has_fit_crc_of c left) s ≡ (has_known_crc c s && is_between own own s)
own_between c own left fits s =
    same_bools (has_own own (has_fit_crc_of c left) s)
    (has_known_crc c s && is_between own own s) (
      λ h.
          let parts = and_parts (eqb s.length own) (has_fit_crc_of c left s) h in
          let is : s.length ≡ own = eqb-true s.length own parts.0 in
          and_from (has_known_crc c s) (is_between own own s)
          (and_parts (has_known_crc c s) (nat_le s.length left) parts.1).0
          (between own own s (omega (arith, is)) (omega (arith, is))),
      λ h.
          let parts = and_parts (has_known_crc c s) (is_between own own s) h in
          let ends = and_parts (nat_le own s.length) (nat_le s.length own) parts.1 in
          let is : s.length ≡ own =
          omega (arith, leb-true own s.length ends.0, leb-true s.length own ends.1) in
          and_from (eqb s.length own) (has_fit_crc_of c left s) (eq-eqb s.length own is)
          (and_from (has_known_crc c s) (nat_le s.length left) parts.0
          (le-leb s.length left (omega (arith, is, fits)))),
    )

-- a slice longer than what is left doesn't fit
pub own_past : (c own left : ℕ) → left < own → (s : SetSlice)
    → has_own own (has_fit_crc_of c left) s ≡ false
own_past c own left past s =
    false_from_ne_true (has_own own (has_fit_crc_of c left) s) (λ h.
    let parts = and_parts (eqb s.length own) (has_fit_crc_of c left s) h in
    absurd (omega (
      arith,
      past,
      eqb-true s.length own parts.0,
      leb-true s.length left
          (and_parts (has_known_crc c s) (nat_le s.length left) parts.1).1,
    )))

passes_none : (test : SetSlice → Bool) → ((s : SetSlice) → test s ≡ false)
    → (slices : List SetSlice) (n : ℕ) → slice_passes slices test n ≡ false
passes_none test fails [] n = refl
passes_none test fails (s ∷ ss) zero = fails s
passes_none test fails (s ∷ ss) (suc n) = passes_none test fails ss n

-- if no slice passes a test, none that isn't found does
pub none_unfound : (slices : List SetSlice) (found : List Bool) (test : SetSlice → Bool)
    → ((s : SetSlice) → test s ≡ false) → has_unfound slices found test ≡ false
none_unfound slices found test fails =
    false_from_ne_true (has_unfound slices found test) (λ h.
    let some = below_any (λ n. slice_passes slices test n && not (found_at found n))
    (length slices) h in
    let passes = (and_parts (slice_passes slices test some.0) (not (found_at found some.0)) some.2).0
    in
    let wrong : true ≡ false = sym passes ∙ passes_none test fails slices some.0 in cc)

module _ (slices : List SetSlice) (entries those : List Entry) (ix : IsIndexOf slices entries)
    (c : ℕ)
    (are : AreWithCrc entries c those) where
  entry_there : (e : Entry) → Contains those e → HasSums slices e.slice c e.digest
  entry_there e there =
      let tied = All-contains (λ e. Contains entries e × (e.crc ≡ c)) those e are.sound there in
      let has : HasSums slices e.slice e.crc e.digest =
      All-contains (λ (x : Entry). HasSums slices x.slice x.crc x.digest)
      entries e ix.sound tied.0 in
      rw (← tied.1) has

  pub entries_there : All (λ (e : Entry). e.slice < length slices) those
  entries_there k d within =
      let tied = are.sound k d within in
      let e = get_or those k d in
      let has : HasSums slices e.slice e.crc e.digest =
      All-contains (λ (x : Entry). HasSums slices x.slice x.crc x.digest)
      entries e ix.sound tied.0 in
      passes_within (has_sums (record { 0 = e.digest }, e.crc)) slices e.slice has

  module _ (whole test : SetSlice → Bool)
      (both : (s : SetSlice) → whole s ≡ (has_known_crc c s && test s)) (found : List Bool) where
    open_unfound : list_any (is_open slices found test) those ≡ true
        → has_unfound slices found whole ≡ true
    open_unfound h =
        let some = Any-from_list_any (is_open slices found test) those h in
        let e = some.1 in
        let parts = and_parts (slice_passes slices test e.slice) (not (found_at found e.slice))
        some.4 in
        let has = crc_at slices e.slice c e.digest (entry_there e (some.0, some.2, some.3)) in
        let fit = passes_both whole test c both slices e.slice has parts.0 in
        any_below (λ n. slice_passes slices whole n && not (found_at found n)) (length slices)
        e.slice (passes_within whole slices e.slice fit)
        (and_from (slice_passes slices whole e.slice) (not (found_at found e.slice)) fit parts.1)

    unfound_open : has_unfound slices found whole ≡ true
        → list_any (is_open slices found test) those ≡ true
    unfound_open h =
        let some = below_any (λ n. slice_passes slices whole n && not (found_at found n))
        (length slices) h in
        let k = some.0 in
        let parts = and_parts (slice_passes slices whole k) (not (found_at found k)) some.2 in
        let fits = passes_parts whole test c both slices k parts.0 in
        let d = has_crc_at slices k c fits.0 in
        let e = entry_of c d.0 k in
        let there = are.complete e (ix.complete k c d.0 d.1) refl in
        list_any-from_Any (is_open slices found test) those (
          there.0,
          e,
          there.1,
          there.2,
          and_from (slice_passes slices test k) (not (found_at found k)) fits.1 parts.1,
        )

    -- some entry's slice passes and isn't found exactly if some slice of the set does and isn't
    pub unfound_is : list_any (is_open slices found test) those ≡ has_unfound slices found whole
    unfound_is = same_bools (list_any (is_open slices found test) those)
        (has_unfound slices found whole) (open_unfound, unfound_open)
