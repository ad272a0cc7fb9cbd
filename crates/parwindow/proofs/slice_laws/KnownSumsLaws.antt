-- The checksums of a slice that passes a test of them.
use Rattle.std.proofs.Common.{◌≡◌, ℕ, zero, suc, ◌<◌, List, [], ◌∷◌, length, Option, Some, None, Bool, true, false, eqb, ◌&&◌, IsTrue, ◌↔◌, eq-eqb, refl, sym, inl, inr, arith}
use Rattle.std.specs.Prelude.{IfSome}
use Rattle.std.specs.List.{slice_get, list_any}
use Rattle.std.specs.Option.{option_map_or}
use Rattle.std.specs.Str.{bytes_eq}
use Rattle.std.proofs.lemmas.Bool.{and_parts, cases_Bool, eqb-true, or_left, or_right}
use Rattle.std.proofs.lemmas.Slice.Eq.{bytes_eq-Decides}
use Rattle.parfield.specs.declared.hash16.Hash16.{Hash16}
use Rattle.parset.specs.declared.recovery_set.SetSlice.{SetSlice}
use Rattle.parwindow.specs.Entries.{HasSums}
use Rattle.parwindow.specs.Index.{slice_passes, has_sums, has_known_crc}
use Rattle.parwindow.specs.Least.{IsLeastFrom}

-- a pair of checksums that passes the test for these two is equal to them
both_same : (md5 : Hash16) (sum c : ℕ) (d : List ℕ) → (eqb sum c && bytes_eq md5.0 d) ≡ true
    → (sum ≡ c) × (md5.0 ≡ d)
both_same md5 sum c d h =
    let parts = and_parts (eqb sum c) (bytes_eq md5.0 d) h in
    (eqb-true sum c parts.0, (bytes_eq-Decides md5.0 d).0 parts.1)

-- if a slice has these checksums and passes the test for others, they are the same
pub sums_same : (slices : List SetSlice) (n c : ℕ) (d : List ℕ) (s : SetSlice) (md5 : Hash16)
    (sum : ℕ)
    → slice_get slices n ≡ Some s
    → s.sums ≡ Some (md5, sum) → HasSums slices n c d → (sum ≡ c) × (md5.0 ≡ d)
sums_same slices n c d s md5 sum there known has =
    let here : has_sums (record { 0 = d }, c) s ≡ true = rw there at has in
    both_same md5 sum c d (rw known at here)

pub sums_none : (slices : List SetSlice) (n c : ℕ) (d : List ℕ) (s : SetSlice)
    → slice_get slices n ≡ Some s
    → s.sums ≡ None → HasSums slices n c d → ⊥
sums_none slices n c d s there unknown has =
    let here : has_sums (record { 0 = d }, c) s ≡ true = rw there at has in
    let wrong : false ≡ true = rw unknown at here in
    cc

pub sums_known : (slices : List SetSlice) (n : ℕ) (s : SetSlice) (md5 : Hash16) (sum : ℕ)
    → slice_get slices n ≡ Some s
    → s.sums ≡ Some (md5, sum) → HasSums slices n sum md5.0
sums_known slices n s md5 sum there known =
    let crc : eqb sum sum ≡ true = eq-eqb sum sum refl in
    let digest : bytes_eq md5.0 md5.0 ≡ true = (bytes_eq-Decides md5.0 md5.0).1 refl in
    rw (there, known, crc, digest) refl

-- a number that passes a test is the number of a slice
pub passes_within : (test : SetSlice → Bool) (slices : List SetSlice) (n : ℕ)
    → slice_passes slices test n ≡ true
    → n < length slices
passes_within test [] n h = cc
passes_within test (s ∷ ss) zero h = omega arith
passes_within test (s ∷ ss) (suc n) h = omega (arith, passes_within test ss n h)

pub found_within : (test : SetSlice → Bool) (slices : List SetSlice) (first : ℕ) (found : Option ℕ)
    → IsLeastFrom (slice_passes slices test) first found
    → IfSome found (λ n. n < length slices)
found_within test slices first None least = tt
found_within test slices first (Some n) least = passes_within test slices n least.passes

-- some slice has this CRC-32 exactly if some slice has it together with an MD5
crc_of_sums : (o : Option (Hash16 × ℕ)) (c : ℕ) (d : List ℕ)
    → option_map_or (λ known. eqb known.1 c && bytes_eq known.0.0 d) o false ≡ true
    → option_map_or (λ (known : Hash16 × ℕ). eqb known.1 c) o false ≡ true
crc_of_sums None c d h = h
crc_of_sums (Some (md5, sum)) c d h = (and_parts (eqb sum c) (bytes_eq md5.0 d) h).0

sums_of_crc : (o : Option (Hash16 × ℕ)) (c : ℕ)
    → option_map_or (λ (known : Hash16 × ℕ). eqb known.1 c) o false ≡ true
    → (d : List ℕ) × (option_map_or (λ known. eqb known.1 c && bytes_eq known.0.0 d) o false ≡ true)
sums_of_crc None c h = ([], h)
sums_of_crc (Some (md5, sum)) c h =
    let digest : bytes_eq md5.0 md5.0 ≡ true = (bytes_eq-Decides md5.0 md5.0).1 refl in
    (md5.0, rw (h, digest) refl)

pub crc_at : (slices : List SetSlice) (n c : ℕ) (d : List ℕ) → HasSums slices n c d
    → slice_passes slices (has_known_crc c) n ≡ true
crc_at [] n c d has = has
crc_at (s ∷ ss) zero c d has = crc_of_sums s.sums c d has
crc_at (s ∷ ss) (suc n) c d has = crc_at ss n c d has

pub has_crc_at : (slices : List SetSlice) (n c : ℕ) → slice_passes slices (has_known_crc c) n ≡ true
    → (d : List ℕ) × HasSums slices n c d
has_crc_at [] n c has = ([], has)
has_crc_at (s ∷ ss) zero c has = sums_of_crc s.sums c has
has_crc_at (s ∷ ss) (suc n) c has = has_crc_at ss n c has

pub any_from_sums : (slices : List SetSlice) (n c : ℕ) (d : List ℕ) → HasSums slices n c d
    → list_any (has_known_crc c) slices ≡ true
any_from_sums [] n c d has = cc
any_from_sums (s ∷ ss) zero c d has =
    or_left (has_known_crc c s) (list_any (has_known_crc c) ss) (crc_of_sums s.sums c d has)
any_from_sums (s ∷ ss) (suc n) c d has =
    or_right (has_known_crc c s) (list_any (has_known_crc c) ss) (any_from_sums ss n c d has)

pub sums_from_any : (slices : List SetSlice) (c : ℕ) → list_any (has_known_crc c) slices ≡ true
    → (n : ℕ) × ((d : List ℕ) × HasSums slices n c d)
sums_from_any [] c any = cc
sums_from_any (s ∷ ss) c any =
    elim (cases_Bool (has_known_crc c s)) [
      | inl here ↦ let found = sums_of_crc s.sums c here in (0, (found.0, found.1))
      | inr other ↦ let found = sums_from_any ss c (rw other at any) in
          (suc found.0, (found.1.0, found.1.1))
    ]

-- two tests that hold in the same cases are equal
pub same_bools : (a b : Bool) → (IsTrue a ↔ IsTrue b) → a ≡ b
same_bools true true h = refl
same_bools true false h = sym (h.0 refl)
same_bools false true h = h.1 refl
same_bools false false h = refl
