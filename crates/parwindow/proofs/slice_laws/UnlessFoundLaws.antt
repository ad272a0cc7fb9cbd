-- The slices of a set, after those that are found lost their checksums.
use Rattle.std.proofs.Common.{◌≡◌, ℕ, ◌+◌, ◌<◌, ◌≤◌, zero, suc, Bool, true, false, not, ◌&&◌, None, List, [], ◌∷◌, ◌++◌, length, map, take, get_or, refl, sym, ap, ◌∙◌, arith}
use Rattle.std.specs.Prelude.{zip}
use Rattle.std.proofs.lemmas.List.{length-map, get_or-map, take_more, take_all}
use Rattle.std.proofs.lemmas.List.Elements.{All-map}
use Rattle.std.proofs.lemmas.Slice.Zip.{get_or-zip, length-zip}
use Rattle.parset.specs.declared.recovery_set.SetSlice.{SetSlice}
use Rattle.parwindow.specs.Index.{SliceSet, IsSliceSet, slice_passes}
use Rattle.parwindow.specs.Missing.{found_at, missing_set, unless_found}

pub and_false : (a : Bool) → (a && false) ≡ false
and_false true = refl
and_false false = refl

pub and_assoc : (a b c : Bool) → ((a && b) && c) ≡ (a && (b && c))
and_assoc true b c = refl
and_assoc false b c = refl

pub and_swap : (a b c : Bool) → ((a && b) && c) ≡ (b && (a && c))
and_swap true true c = refl
and_swap true false c = refl
and_swap false true c = refl
and_swap false false c = refl

pub length-unless_found : (slices : List SetSlice) (found : List Bool) → length found ≡ length slices
    → length (map unless_found (zip slices found)) ≡ length slices
length-unless_found slices found each =
    omega (arith, length-map (zip slices found) unless_found, length-zip slices found)

-- a slice keeps its unpadded length
length_kept : (size : ℕ) (slice : SetSlice) (flag : Bool)
    → (0 < slice.length) × (slice.length ≤ size)
    → (0 < (unless_found (slice, flag)).length) × ((unless_found (slice, flag)).length ≤ size)
length_kept size slice true own = own
length_kept size slice false own = own

-- the slices of an index stay within its limits if some of them lose their checksums
pub missing_good : (set : SliceSet) (found : List Bool) → length found ≡ length set.slices
    → IsSliceSet set → IsSliceSet (missing_set set found)
missing_good set found each good =
    let same : length (map unless_found (zip set.slices found)) ≡ length set.slices =
    length-unless_found set.slices found each in record {
      least_size = good.least_size;
      greatest_size = good.greatest_size;
      multiple = good.multiple;
      few = rw same good.few;
      own = All-map (λ slice. (0 < slice.length) × (slice.length ≤ set.slice_size)) unless_found
          (zip set.slices found)
          (λ i d below.
          let inside : i < length set.slices =
          omega (arith, length-zip set.slices found) in
          let marked : i < length found = omega arith in
          rw (get_or-zip set.slices found i d inside marked)
          (length_kept set.slice_size (get_or set.slices i d.0) (get_or found i d.1)
          (good.own i d.0 inside)));
    }

-- if no slice without checksums passes a test, slice n passes it after those that are found lost
-- their checksums exactly if it isn't found and passed before
pub passes_unless_found : (test : SetSlice → Bool)
    → ((s : SetSlice) → test (record s { sums = None }) ≡ false)
    → (slices : List SetSlice) (found : List Bool) (n : ℕ) → length found ≡ length slices
    → slice_passes (map unless_found (zip slices found)) test n
    ≡ (not (found_at found n) && slice_passes slices test n)
passes_unless_found test none [] [] n each = refl
passes_unless_found test none [] (f ∷ fs) n each = absurd (omega arith)
passes_unless_found test none (s ∷ ss) [] n each = absurd (omega arith)
passes_unless_found test none (s ∷ ss) (true ∷ fs) zero each = none s
passes_unless_found test none (s ∷ ss) (false ∷ fs) zero each = refl
passes_unless_found test none (s ∷ ss) (f ∷ fs) (suc n) each =
    passes_unless_found test none ss fs n (omega arith)

-- the list so far, followed by one slice more
pub unless_found_more : (slices : List SetSlice) (found : List Bool) (list : List SetSlice) (i : ℕ)
    (d : SetSlice) → length found ≡ length slices → i < length slices
    → list ≡ take i (map unless_found (zip slices found))
    → list ++ unless_found (get_or slices i d, get_or found i false) ∷ []
    ≡ take (i + 1) (map unless_found (zip slices found))
unless_found_more slices found list i d each less so_far =
    let marked : i < length found = omega arith in
    let within : i < length (map unless_found (zip slices found)) =
    omega (arith, length-unless_found slices found each) in
    let zipped : i < length (zip slices found) = omega (arith, length-zip slices found) in
    let here : get_or (map unless_found (zip slices found)) i d
    ≡ unless_found (get_or slices i d, get_or found i false) =
    get_or-map unless_found (zip slices found) i (d, false) d zipped
    ∙ ap unless_found (get_or-zip slices found i (d, false) less marked) in
    ap (λ l. l ++ unless_found (get_or slices i d, get_or found i false) ∷ []) so_far
    ∙ ap (λ s. take i (map unless_found (zip slices found)) ++ s ∷ []) (sym here)
    ∙ sym (take_more (map unless_found (zip slices found)) i d within)

pub unless_found_all : (slices : List SetSlice) (found : List Bool) (i : ℕ)
    → length found ≡ length slices → i ≡ length slices
    → take i (map unless_found (zip slices found)) ≡ map unless_found (zip slices found)
unless_found_all slices found i each all =
    take_all i (map unless_found (zip slices found))
    (omega (arith, length-unless_found slices found each))
