-- The filter of the registers that short slices have before their padding.
use Rattle.std.proofs.Common.{◌≡◌, ℕ, ◌+◌, ◌-◌, ◌<◌, Bool, true, false, sym, ◌∙◌, inl, inr, arith}
use Rattle.std.proofs.lemmas.Bool.{cases_Bool}
use Rattle.parwindow.specs.FilterBits.{zeros_crc}
use Rattle.parwindow.specs.Index.{SliceSet, set_has_own_crc}

-- if the filter says no, no slice of this unpadded length has the CRC-32
pub tail_misses : (set : SliceSet) (own zeros register : ℕ) (may : Bool)
    → ((own : ℕ) → own < set.slice_size
    → set_has_own_crc set (zeros_crc (set.slice_size - own) register) own ≡ true → may ≡ true)
    → may ≡ false → own + zeros ≡ set.slice_size → 0 < zeros
    → false ≡ set_has_own_crc set (zeros_crc zeros register) own
tail_misses set own zeros register may has refused filled some =
    let rest : set.slice_size - own ≡ zeros = omega (arith, filled) in
    elim (cases_Bool (set_has_own_crc set (zeros_crc zeros register) own)) [
      | inl found ↦
          let wrong : true ≡ false = sym (has own (omega (arith, filled, some)) (rw rest found)) ∙ refused
          in cc
      | inr none ↦ sym none
    ]
