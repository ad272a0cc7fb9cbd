-- Facts about the register of each short slice before its padding, collected slice by slice.
use Rattle.std.proofs.Common.{◌≡◌, ℕ, ◌+◌, ◌-◌, ◌*◌, ◌^◌, ◌<◌, ◌≤◌, List, length, take, get_or, true, false, Some, None, eqb, sym, ap, ◌∙◌, inl, inr, arith, IsTrue}
use Rattle.std.specs.Int.Bits.{bit_xor}
use Rattle.std.specs.List.{list_any}
use Rattle.std.proofs.lemmas.Bool.{cases_Bool, and_parts, eqb-true}
use Rattle.std.proofs.lemmas.List.Folds.{list_any_more}
use Rattle.parfield.specs.declared.hash16.Hash16.{Hash16}
use Rattle.parset.specs.declared.recovery_set.SetSlice.{SetSlice}
use Rattle.parwindow.specs.Crc32.{crc_steps}
use Rattle.parwindow.specs.FilterBits.{zeros_crc}
use Rattle.parwindow.specs.Index.{has_known_crc, has_own}
use Rattle.parwindow.proofs.crc_laws.XorLaws.{xor_laws}

-- the fact holds for each length below the slice size and each register that zeros up to that size
-- turn into the CRC-32 of a slice of this unpadded length
abbrev pub HoldsOfShort : ℕ → List SetSlice → (ℕ → ℕ → Type 0) → Type 0
HoldsOfShort size slices Holds =
    (own register : ℕ) → own < size → register < 2 ^ 32
    → IsTrue (list_any (has_own own (has_known_crc (zeros_crc (size - own) register))) slices)
    → Holds own register

uninverted : (r ones : ℕ) → bit_xor (bit_xor r ones) ones ≡ r
uninverted r ones = simp xor_laws

-- the step from the first i slices to the first i + 1
module _ (size : ℕ) (slices : List SetSlice) (i : ℕ) (d : SetSlice) (Before After : ℕ → ℕ → Type 0)
    (within : i < length slices) (holds : HoldsOfShort size (take i slices) Before)
    (keeps : (own register : ℕ) → Before own register → After own register) where
  more : ((own register : ℕ) → own < size → register < 2 ^ 32
      → has_own own (has_known_crc (zeros_crc (size - own) register)) (get_or slices i d) ≡ true
      → After own register)
      → HoldsOfShort size (take (i + 1) slices) After
  more marks own register shorter small any =
      elim (cases_Bool (list_any (has_own own (has_known_crc (zeros_crc (size - own) register)))
      (take i slices))) [
        | inl earlier ↦ keeps own register (holds own register shorter small earlier)
        | inr none ↦ marks own register shorter small (rw none at (sym (list_any_more (has_own own
            (has_known_crc (zeros_crc (size - own) register))) slices i d within) ∙ any))
      ]

  both : (own register : ℕ)
      → has_own own (has_known_crc (zeros_crc (size - own) register)) (get_or slices i d) ≡ true
      → ((get_or slices i d).length ≡ own)
      × (has_known_crc (zeros_crc (size - own) register) (get_or slices i d) ≡ true)
  both own register hit =
      let parts = and_parts (eqb (get_or slices i d).length own)
      (has_known_crc (zeros_crc (size - own) register) (get_or slices i d)) hit in
      (eqb-true (get_or slices i d).length own parts.0, parts.1)

  -- the slice's checksums aren't known
  pub short_none : (get_or slices i d).sums ≡ None → HoldsOfShort size (take (i + 1) slices) After
  short_none unknown = more (λ own register shorter small hit.
      let known = (both own register hit).1 in
      let wrong : false ≡ true = rw unknown at known in cc)

  -- the slice isn't short
  pub short_whole : size ≤ (get_or slices i d).length
      → HoldsOfShort size (take (i + 1) slices) After
  short_whole long = more (λ own register shorter small hit.
      let same : (get_or slices i d).length ≡ own = (both own register hit).0 in
      absurd (omega (arith, long, same, shorter)))

  -- the slice is short: the fact is needed for the register before its padding
  pub short_some : (md5 : Hash16) (sum mark : ℕ) → (get_or slices i d).sums ≡ Some (md5, sum)
      → ((r : ℕ) → r < 2 ^ 32 → crc_steps (8 * (size - (get_or slices i d).length)) r
      ≡ bit_xor sum 0xFFFFFFFF → mark ≡ r)
      → After (get_or slices i d).length mark → HoldsOfShort size (take (i + 1) slices) After
  short_some md5 sum mark known back marked = more (λ own register shorter small hit.
      let same : (get_or slices i d).length ≡ own = (both own register hit).0 in
      let has = (both own register hit).1 in
      let crc : sum ≡ zeros_crc (size - own) register =
      eqb-true sum (zeros_crc (size - own) register) (rw known at has) in
      let is : mark ≡ register = back register small
      (ap (λ n. crc_steps (8 * (size - n)) register) same
      ∙ sym (ap (λ x. bit_xor x 0xFFFFFFFF) crc
      ∙ uninverted (crc_steps (8 * (size - own)) register) 0xFFFFFFFF)) in
      rw (is, same) at marked)
