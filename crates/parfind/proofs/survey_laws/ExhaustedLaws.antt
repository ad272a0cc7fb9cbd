-- Exhausted CRC-32s, those whose slices are all found: they stay exhausted as more slices are found
-- and as less is left of a file.
use Rattle.std.proofs.Common.{◌≡◌, ℕ, ◌<◌, ◌≤◌, Bool, true, false, ◌==◌, nat_le, List, length, replicate, slice_get, slice_index, slice_index_or, slice_set, sym, ap, subst, ◌∙◌, arith, inl, inr, Option, Some, None, IfSome, get_or-set_same, get_or-set_other}
use Rattle.std.specs.Option.{option_map_or}
use Rattle.std.proofs.lemmas.Bool.{and_parts, and_from, cases_eq, cases_lt, false_from_ne_true, le-leb, leb-true}
use Rattle.std.proofs.lemmas.List.{get_or_past, get_or-replicate, length-replicate}
use Rattle.parset.specs.declared.recovery_set.SetSlice.{SetSlice}
use Rattle.parwindow.specs.Index.{slice_passes, has_known_crc}
use Rattle.parwindow.specs.Missing.{has_fit_crc_of, has_unfound}
use Rattle.parfind.specs.Noting.{AreExhausted, IsExhausted, FindsMore}
use Rattle.parfind.specs.Sought.{Sought, is_compared, compared_length, compared_lengths}
use Rattle.parfind.proofs.place_laws.FittingLaws.{passing}
use Rattle.parfind.proofs.survey_laws.NotedLaws.{missing_there, missing_was, found_kept}

if_some : (P Q : ℕ → Type 0) → ((crc : ℕ) → P crc → Q crc) → (known : Option ℕ) → IfSome known P → IfSome known Q
if_some P Q weaker None h = tt
if_some P Q weaker (Some crc) h = weaker crc h

-- a slice that fits into fewer bytes fits into more
compared_more : (sought : Sought) (own crc less more : ℕ) → less ≤ more → (n : ℕ)
    → slice_passes sought.set.slices (is_compared sought own (has_fit_crc_of crc less)) n ≡ true
    → slice_passes sought.set.slices (is_compared sought own (has_fit_crc_of crc more)) n ≡ true
compared_more sought own crc less more up n h =
    let slice = passing (is_compared sought own (has_fit_crc_of crc less)) (slice_get sought.set.slices n) h in
    let here : Bool = compared_length sought.mode sought.set.slice_size slice.0 == own in
    let parts = and_parts here (has_fit_crc_of crc less slice.0) slice.2 in
    let fits = and_parts (has_known_crc crc slice.0) (nat_le slice.0.length less) parts.1 in
    let short : slice.0.length ≤ less = leb-true slice.0.length less fits.1 in
    ap (λ (o : Option SetSlice). option_map_or (is_compared sought own (has_fit_crc_of crc more)) o false) slice.1
    ∙ and_from here (has_fit_crc_of crc more slice.0) parts.0
    (and_from (has_known_crc crc slice.0) (nat_le slice.0.length more) fits.0 (le-leb slice.0.length more (omega arith)))

module _ (sought : Sought) (left : ℕ) (crcs : List (Option ℕ)) where
  -- they stay exhausted as more slices are found
  pub exhausted_more : (was now : List Bool) (test : ℕ → Bool) → FindsMore test was now → AreExhausted sought was left crcs
      → AreExhausted sought now left crcs
  exhausted_more was now test marks are k within =
      let own : ℕ = slice_index (compared_lengths sought) k in
      if_some (IsExhausted sought was left own) (IsExhausted sought now left own)
      (λ crc known.
      let fit : SetSlice → Bool = is_compared sought own (has_fit_crc_of crc left) in
      false_from_ne_true (has_unfound sought.set.slices now fit) (λ missing.
      let before : has_unfound sought.set.slices was fit ≡ true = missing_was sought.set was now fit (found_kept test was now marks) missing in
      let both : true ≡ false = sym before ∙ known in cc))
      (slice_index_or crcs k None) (are k within)

  -- they stay exhausted as less is left of the file
  pub exhausted_on : (found : List Bool) (less : ℕ) → less ≤ left → AreExhausted sought found left crcs → AreExhausted sought found less crcs
  exhausted_on found less up are k within =
      let own : ℕ = slice_index (compared_lengths sought) k in
      if_some (IsExhausted sought found left own) (IsExhausted sought found less own)
      (λ crc known.
      let fit : SetSlice → Bool = is_compared sought own (has_fit_crc_of crc less) in
      false_from_ne_true (has_unfound sought.set.slices found fit) (λ missing.
      let more : has_unfound sought.set.slices found (is_compared sought own (has_fit_crc_of crc left)) ≡ true =
      missing_there sought.set found found fit (is_compared sought own (has_fit_crc_of crc left))
      (λ n has none. (compared_more sought own crc less left up n has, none)) missing in
      let both : true ≡ false = sym more ∙ known in cc))
      (slice_index_or crcs k None) (are k within)

  -- another CRC-32 may be noted if it is exhausted
  pub exhausted_set : (found : List Bool) (k crc : ℕ) → k < length crcs → IsExhausted sought found left (slice_index (compared_lengths sought) k) crc
      → AreExhausted sought found left crcs → AreExhausted sought found left (slice_set crcs k (Some crc))
  exhausted_set found k crc room known are j within =
      let P : ℕ → ℕ → Type 0 = λ i. IsExhausted sought found left (slice_index (compared_lengths sought) i) in
      elim (cases_eq j k) [
        | inl same ↦
            let set : slice_index_or (slice_set crcs k (Some crc)) k None ≡ Some crc = get_or-set_same crcs k (Some crc) None room in
            subst (λ (i : ℕ). IfSome (slice_index_or (slice_set crcs k (Some crc)) i None) (P i)) (sym same)
            (subst (λ (o : Option ℕ). IfSome o (P k)) (sym set) known)
        | inr other ↦
            let kept : slice_index_or (slice_set crcs k (Some crc)) j None ≡ slice_index_or crcs j None =
            get_or-set_other crcs k j (Some crc) None other in
            subst (λ (o : Option ℕ). IfSome o (P j)) (sym kept) (are j within)
      ]

-- if none is noted, all that are noted are exhausted
pub exhausted_none : (sought : Sought) (found : List Bool) (left count : ℕ) → AreExhausted sought found left (replicate count None)
exhausted_none sought found left count k within = elim (cases_lt k count) [
  | inl less ↦ rw (get_or-replicate {A = Option ℕ} count k None None less) tt
  | inr past ↦ rw (get_or_past (replicate {A = Option ℕ} count None) k None (omega (arith, length-replicate {A = Option ℕ} count None))) tt
]
