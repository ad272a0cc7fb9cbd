-- Bits of a filter, and the slices that they are set for.
use Rattle.std.proofs.Common.{◌≡◌, ℕ, ◌*◌, ◌/◌, ◌%◌, ◌^◌, ◌<◌, List, length, take, get_or, set, ◌+◌, true, false, Some, None, sym, ◌∙◌, inl, inr, arith, get_or-set_same, get_or-set_other, w64}
use mir.Val.{bits}
use Rattle.std.specs.Int.{Width, bit_at}
use Rattle.std.specs.Int.Bits.{bit_and, bit_or, bit_xor}
use Rattle.std.proofs.lemmas.Nat.{and_le_r}
use Rattle.std.proofs.lemmas.Nat.Bits.{bit_at_set_same, bit_at_set_other}
use Rattle.std.proofs.lemmas.Bool.{cases_Bool, cases_eq, eqb-true}
use Rattle.std.specs.List.{list_any}
use Rattle.std.proofs.lemmas.List.Folds.{list_any_more}
use Rattle.parfield.specs.declared.hash16.Hash16.{Hash16}
use Rattle.parset.specs.declared.recovery_set.SetSlice.{SetSlice}
use Rattle.parwindow.specs.Index.{has_known_crc}
use Rattle.parwindow.specs.FilterBits.{MayHave, HasSlices}
use Rattle.parwindow.specs.KeyBits.{HasBit}
use Rattle.parwindow.specs.declared.slices.bloom_filter.BloomFilter.{BloomFilter}

-- setting a bit in one of some words
module _ (w : Width) (words : List ℕ) (i bit : ℕ) (within : i < length words)
    (below : bit < bits w) where
  abbrev pub with_bit : List ℕ
  with_bit = set words i (bit_or (get_or words i 0) (1 * 2 ^ bit % 2 ^ bits w))

  pub with_bit-has : bit_at (get_or with_bit i 0) bit ≡ 1
  with_bit-has = rw get_or-set_same (bit_at_set_same w (get_or words i 0) bit below)

  pub with_bit-keeps : (j other : ℕ) → bit_at (get_or words j 0) other ≡ 1
      → bit_at (get_or with_bit j 0) other ≡ 1
  with_bit-keeps j other was = elim (cases_eq j i) [
    | inl here ↦ elim (cases_eq other bit) [
      | inl same ↦ rw (here, same) with_bit-has
      | inr apart ↦
          rw (here, get_or-set_same)
          (bit_at_set_other w (get_or words i 0) bit below other apart ∙ rw here at was)
    ]
    | inr apart ↦ rw get_or-set_other was
  ]

-- the words after the bit of a key was set
abbrev pub inserted : List ℕ → ℕ → List ℕ
inserted words r = set words (r / 262144) (bit_or (get_or words (r / 262144) 0)
    (1 * 2 ^ (bit_and r 63) % 2 ^ 64))

pub insert-has : (words : List ℕ) (r : ℕ) → r / 262144 < length words → HasBit (inserted words r) r
insert-has words r within =
    let bit : bit_and r 63 < 64 = omega (arith, and_le_r r 63) in
    with_bit-has w64 words (r / 262144) (bit_and r 63) within bit

pub insert-keeps : (words : List ℕ) (r other : ℕ) → r / 262144 < length words → HasBit words other
    → HasBit (inserted words r) other
insert-keeps words r other within was =
    let bit : bit_and r 63 < 64 = omega (arith, and_le_r r 63) in
    with_bit-keeps w64 words (r / 262144) (bit_and r 63) within bit (other / 262144)
    (bit_and other 63) was

-- one slice more: the filter has it if its bits were set and all others stayed set
has_more : (slices : List SetSlice) (i : ℕ) (d : SetSlice) (before after : BloomFilter)
    → i < length slices
    → HasSlices (take i slices) before → ((other : ℕ) → MayHave before other → MayHave after other)
    → ((crc : ℕ) → has_known_crc crc (get_or slices i d) ≡ true
    → MayHave after (bit_xor crc 0xFFFFFFFF))
    → HasSlices (take (i + 1) slices) after
has_more slices i d before after within has keeps marks crc any =
    elim (cases_Bool (list_any (has_known_crc crc) (take i slices))) [
      | inl earlier ↦ keeps (bit_xor crc 0xFFFFFFFF) (has crc earlier)
      | inr none ↦ marks crc (rw none at (sym (list_any_more (has_known_crc crc) slices i d within)
          ∙ any))
    ]

-- if the slice's checksums aren't known, no bit is needed
pub has_none : (slices : List SetSlice) (i : ℕ) (d : SetSlice) (filter : BloomFilter)
    → i < length slices
    → HasSlices (take i slices) filter → (get_or slices i d).sums ≡ None
    → HasSlices (take (i + 1) slices) filter
has_none slices i d filter within has unknown =
    has_more slices i d filter filter within has (λ other was. was)
    (λ crc hit. let wrong : false ≡ true = rw unknown at hit in cc)

-- if they are known, the bits of the slice's register are needed
pub has_some : (slices : List SetSlice) (i : ℕ) (d : SetSlice) (before after : BloomFilter)
    (md5 : Hash16) (sum : ℕ)
    → i < length slices
    → HasSlices (take i slices) before → ((other : ℕ) → MayHave before other → MayHave after other)
    → (get_or slices i d).sums ≡ Some (md5, sum) → MayHave after (bit_xor sum 0xFFFFFFFF)
    → HasSlices (take (i + 1) slices) after
has_some slices i d before after md5 sum within has keeps known marks =
    has_more slices i d before after within has keeps (λ crc hit.
    let same : sum ≡ crc = eqb-true sum crc (rw known at hit) in
    rw (← same) marks)
