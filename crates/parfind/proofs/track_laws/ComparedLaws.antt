-- Compared lengths: tests of the slices of one compared length, and of all of them together.
use Rattle.std.proofs.Common.{◌≡◌, ℕ, zero, suc, ◌<◌, ◌≤◌, Bool, true, false, ◌&&◌, ◌==◌, nat_le, eqb, eq-eqb, List, [], ◌∷◌, length, slice_get, slice_index, refl, sym, ap, ◌∙◌, arith, Option, Some, None}
use Rattle.std.specs.List.{list_any}
use Rattle.std.specs.Option.{option_map_or}
use Rattle.std.proofs.lemmas.Bool.{and_parts, and_from, eqb-true, le-leb, leb-true}
use Rattle.std.proofs.lemmas.List.Folds.{Any-from_list_any, list_any-from_Any}
use Rattle.parset.specs.declared.recovery_set.SetSlice.{SetSlice}
use Rattle.parfield.specs.declared.hash16.Hash16.{Hash16}
use Rattle.parwindow.specs.Index.{SliceSet, slice_passes, has_own, has_sums, has_known_crc}
use Rattle.parwindow.specs.Least.{IsLeastFrom}
use Rattle.parwindow.specs.Missing.{has_fit_crc_of}
use Rattle.parwindow.proofs.slice_laws.KnownSumsLaws.{same_bools}
use Rattle.parfind.specs.Fitting.{is_fitting_match}
use Rattle.parfind.specs.Sought.{Sought, sought_of, is_compared, compared_length, compared_lengths}
use Rattle.parfind.proofs.place_laws.FittingLaws.{passing, passing_has, has_both}
use Rattle.parfind.specs.declared.tracks.mode.Mode.{Mode}
use Rattle.parfind.specs.declared.tracks.mode.Mode.TheVariants.{Plain, Tails}

-- in the plain mode there is only one compared length, which each slice has
plain_at : (set : SliceSet) (k : ℕ) → k < length (compared_lengths (sought_of set Plain))
    → (set.slice_size == slice_index (compared_lengths (sought_of set Plain)) k) ≡ true
plain_at set zero below = eq-eqb set.slice_size set.slice_size refl
plain_at set (suc k) below = absurd (omega arith)

pub compared_plain : (set : SliceSet) (mode : Mode) (k : ℕ) (test : SetSlice → Bool) → mode ≡ Plain
    → k < length (compared_lengths (sought_of set mode))
    → is_compared (sought_of set mode) (slice_index (compared_lengths (sought_of set mode)) k) test ≡ test
compared_plain set Plain k test is below =
    ap (λ (b : Bool). λ (slice : SetSlice). b && test slice) (plain_at set k below)
compared_plain set Tails k test is below = cc

-- with tails, the compared length of a slice is its unpadded length
pub compared_tails : (set : SliceSet) (mode : Mode) (own : ℕ) (test : SetSlice → Bool) → mode ≡ Tails
    → is_compared (sought_of set mode) own test ≡ has_own own test
compared_tails set Plain own test is = cc
compared_tails set Tails own test is = refl

-- a slice of `own` bytes fits if `own` bytes do
module _ (own left : ℕ) where
  fit_own : (whole test : SetSlice → Bool)
      → ((slice : SetSlice) → whole slice ≡ true → (test slice ≡ true) × (slice.length ≤ left))
      → ((slice : SetSlice) → test slice ≡ true → slice.length ≤ left → whole slice ≡ true)
      → (slice : SetSlice) → has_own own whole slice ≡ (nat_le own left && has_own own test slice)
  fit_own whole test parts both slice =
      same_bools (has_own own whole slice) (nat_le own left && has_own own test slice) (
        λ h.
            let two = and_parts (eqb slice.length own) (whole slice) h in
            let is : slice.length ≡ own = eqb-true slice.length own two.0 in
            let held = parts slice two.1 in
            and_from (nat_le own left) (has_own own test slice) (le-leb own left (omega (arith, is, held.1)))
            (and_from (eqb slice.length own) (test slice) two.0 held.0),
        λ h.
            let two = and_parts (nat_le own left) (has_own own test slice) h in
            let three = and_parts (eqb slice.length own) (test slice) two.1 in
            let is : slice.length ≡ own = eqb-true slice.length own three.0 in
            and_from (eqb slice.length own) (whole slice) three.0
            (both slice three.1 (omega (arith, is, leb-true own left two.0))),
      )

  pub fit_own_crc : (crc : ℕ) (slice : SetSlice)
      → has_own own (has_fit_crc_of crc left) slice ≡ (nat_le own left && has_own own (has_known_crc crc) slice)
  fit_own_crc crc =
      fit_own (has_fit_crc_of crc left) (has_known_crc crc)
      (λ slice h. let two = and_parts (has_known_crc crc slice) (nat_le slice.length left) h in (two.0, leb-true slice.length left two.1))
      (λ slice h fits. and_from (has_known_crc crc slice) (nat_le slice.length left) h (le-leb slice.length left fits))

  pub fit_own_sums : (sums : Hash16 × ℕ) (slice : SetSlice)
      → has_own own (is_fitting_match sums left) slice ≡ (nat_le own left && has_own own (has_sums sums) slice)
  fit_own_sums sums =
      fit_own (is_fitting_match sums left) (has_sums sums)
      (λ slice h. let two = and_parts (nat_le slice.length left) (has_sums sums slice) h in (two.1, leb-true slice.length left two.0))
      (λ slice h fits. and_from (nat_le slice.length left) (has_sums sums slice) (le-leb slice.length left fits) h)

-- tests that agree on each element agree on a list
pub any_agree : {A : Type 0} (p q : A → Bool) → ((x : A) → p x ≡ q x) → (xs : List A) → list_any p xs ≡ list_any q xs
any_agree p q same [] = refl
any_agree p q same (x ∷ xs) = rw (same x, any_agree p q same xs) refl

any_and : {A : Type 0} (b : Bool) (p : A → Bool) (xs : List A) → list_any (λ x. b && p x) xs ≡ (b && list_any p xs)
any_and true p xs = refl
any_and false p [] = refl
any_and false p (x ∷ xs) = any_and false p xs

pub some_fit_own : (slices : List SetSlice) (crc own left : ℕ)
    → list_any (has_own own (has_fit_crc_of crc left)) slices ≡ (nat_le own left && list_any (has_own own (has_known_crc crc)) slices)
some_fit_own slices crc own left =
    any_agree (has_own own (has_fit_crc_of crc left)) (λ slice. nat_le own left && has_own own (has_known_crc crc) slice)
    (fit_own_crc own left crc) slices
    ∙ any_and (nat_le own left) (has_own own (has_known_crc crc)) slices

pub passes_agree : (p q : SetSlice → Bool) → ((slice : SetSlice) → p slice ≡ q slice) → (slices : List SetSlice) (n : ℕ)
    → slice_passes slices p n ≡ slice_passes slices q n
passes_agree p q same [] n = refl
passes_agree p q same (s ∷ ss) zero = same s
passes_agree p q same (s ∷ ss) (suc n) = passes_agree p q same ss n

pub least_agree : (p q : ℕ → Bool) → ((n : ℕ) → p n ≡ q n) → (first : ℕ) (found : Option ℕ) → IsLeastFrom p first found
    → IsLeastFrom q first found
least_agree p q same first None none = λ k from h. none k from (same k ∙ h)
least_agree p q same first (Some n) least = record {
  at_or_above = least.at_or_above;
  passes = sym (same n) ∙ least.passes;
  least = λ k from below h. least.least k from below (same k ∙ h);
}

none_of : (slices : List SetSlice) (n : ℕ) → slice_passes slices (λ slice. false) n ≡ true → ⊥
none_of [] n h = cc
none_of (s ∷ ss) zero h = cc
none_of (s ∷ ss) (suc n) h = none_of ss n h

-- the first slice of `own` bytes with these checksums is the first one that fits, if `own` bytes
-- fit
module _ (slices : List SetSlice) (sums : Hash16 × ℕ) (own left first : ℕ) where
  same_fit : (b : Bool) → nat_le own left ≡ b → (n : ℕ)
      → slice_passes slices (λ slice. b && has_own own (has_sums sums) slice) n
      ≡ slice_passes slices (has_own own (is_fitting_match sums left)) n
  same_fit b is =
      passes_agree (λ slice. b && has_own own (has_sums sums) slice) (has_own own (is_fitting_match sums left))
      (λ slice. ap (λ (c : Bool). c && has_own own (has_sums sums) slice) (sym is) ∙ sym (fit_own_sums own left sums slice)) slices

  pub own_first : (found : Option ℕ) → nat_le own left ≡ true → IsLeastFrom (slice_passes slices (has_own own (has_sums sums))) first found
      → IsLeastFrom (slice_passes slices (has_own own (is_fitting_match sums left))) first found
  own_first found fits least =
      least_agree (slice_passes slices (has_own own (has_sums sums))) (slice_passes slices (has_own own (is_fitting_match sums left)))
      (same_fit true fits) first found least

  pub own_none : nat_le own left ≡ false → IsLeastFrom (slice_passes slices (has_own own (is_fitting_match sums left))) first None
  own_none fails k from h = none_of slices k (same_fit false fails k ∙ h)

-- a slice of this compared length that has both checksums and fits has the CRC-32 and fits
module _ (sought : Sought) (own left : ℕ) (sums : Hash16 × ℕ) where
  compared_crc : (slice : SetSlice) → is_compared sought own (is_fitting_match sums left) slice ≡ true
      → is_compared sought own (has_fit_crc_of sums.1 left) slice ≡ true
  compared_crc slice h =
      let here : Bool = compared_length sought.mode sought.set.slice_size slice == own in
      let parts = and_parts here (is_fitting_match sums left slice) h in
      let fits = and_parts (nat_le slice.length left) (has_sums sums slice) parts.1 in
      and_from here (has_fit_crc_of sums.1 left slice) parts.0
      (and_from (has_known_crc sums.1 slice) (nat_le slice.length left) (has_both sums slice.sums fits.1) fits.0)

  pub compared_fits : (n : ℕ) → slice_passes sought.set.slices (is_compared sought own (is_fitting_match sums left)) n ≡ true
      → slice_passes sought.set.slices (is_compared sought own (has_fit_crc_of sums.1 left)) n ≡ true
  compared_fits n h =
      let slice = passing (is_compared sought own (is_fitting_match sums left)) (slice_get sought.set.slices n) h in
      ap (λ (o : Option SetSlice). option_map_or (is_compared sought own (has_fit_crc_of sums.1 left)) o false) slice.1 ∙ compared_crc slice.0 slice.2

  pub compared_some : (n : ℕ) → slice_passes sought.set.slices (is_compared sought own (is_fitting_match sums left)) n ≡ true
      → list_any (is_compared sought own (has_fit_crc_of sums.1 left)) sought.set.slices ≡ true
  compared_some n h =
      let slice = passing (is_compared sought own (is_fitting_match sums left)) (slice_get sought.set.slices n) h in
      passing_has (is_compared sought own (has_fit_crc_of sums.1 left)) sought.set.slices n slice.0 slice.1 (compared_crc slice.0 slice.2)

-- if a slice that fits has a CRC-32, a slice has it
pub compared_known : (sought : Sought) (own crc left : ℕ) → list_any (is_compared sought own (has_fit_crc_of crc left)) sought.set.slices ≡ true
    → list_any (is_compared sought own (has_known_crc crc)) sought.set.slices ≡ true
compared_known sought own crc left h =
    let some = Any-from_list_any (is_compared sought own (has_fit_crc_of crc left)) sought.set.slices h in
    let here : Bool = compared_length sought.mode sought.set.slice_size some.1 == own in
    let parts = and_parts here (has_fit_crc_of crc left some.1) some.4 in
    let has = and_parts (has_known_crc crc some.1) (nat_le some.1.length left) parts.1 in
    list_any-from_Any (is_compared sought own (has_known_crc crc)) sought.set.slices
    (some.0, some.1, some.2, some.3, and_from here (has_known_crc crc some.1) parts.0 has.0)
