-- The IDs of a recovery set are strictly increasing.
use Rattle.std.proofs.Common.{◌≡◌, ℕ, ◌∙◌, ap, sym, refl, Bool, false, List, [], ◌∷◌, map, Ordering, Less, Equal, Greater, bytes_eq, take, zero, suc}
use Rattle.std.specs.BTreeMap.{BTreeMap}
use Rattle.std.specs.List.{AllByRecursion, IsDistinct, list_any}
use Rattle.std.specs.List.Sorted.{IsStrictlySortedBy}
use Rattle.std.specs.Ordering.{is_eq, is_gt}
use Rattle.std.proofs.lemmas.Bool.{false≢true, or_from, or_parts}
use Rattle.std.proofs.lemmas.Cmp.{nat_list_eq_equiv}
use Rattle.std.proofs.lemmas.List.Elements.{recursion_from_All}
use Rattle.std.proofs.lemmas.Map.Keys.{IsDistinct-IsPermutation}
use Rattle.parfield.specs.HashOrder.{id_cmp, bytes_eq-reversed}
use Rattle.parfield.specs.declared.hash16.Hash16.{Hash16}
use Rattle.parset.specs.Reasons.{has_repeat}
use Rattle.parset.specs.RecoverySet.{ids_in_order}
use Rattle.parset.specs.Slices.{file_views, set_file_of}
use Rattle.parset.specs.declared.bodies.checksums.Ifsc.{Ifsc}
use Rattle.parset.specs.declared.bodies.description.Desc.{Desc}
use Rattle.parset.proofs.IdLaws.{InOrder, IsAtMost, order_moves, ordered}

-- ---- the first IDs of a list without repeats
front_passes_none : {X : Type 0} (p : X → Bool) (n : ℕ) (xs : List X) → list_any p xs ≡ false → list_any p (take n xs) ≡ false
front_passes_none p zero xs e = refl
front_passes_none p (suc n) [] e = refl
front_passes_none p (suc n) (x ∷ xs) e =
    let both = or_parts (p x) (list_any p xs) e in or_from _ _ both.0 (front_passes_none p n xs both.1)

pub front_has_no_repeat : (n : ℕ) (ids : List Hash16) → has_repeat ids ≡ false → has_repeat (take n ids) ≡ false
unfolding has_repeat
front_has_no_repeat zero ids e = refl
front_has_no_repeat (suc n) [] e = refl
front_has_no_repeat (suc n) (x ∷ xs) e =
    let both = or_parts (list_any (λ y. bytes_eq x.0 y.0) xs) (has_repeat xs) e in
    or_from _ _ (front_passes_none (λ y. bytes_eq x.0 y.0) n xs both.0) (front_has_no_repeat n xs both.1)

-- ---- sorted IDs without repeats
abbrev is_same : Hash16 → Hash16 → Bool
is_same x y = bytes_eq x.0 y.0

unlike : (x : Hash16) (ys : List Hash16) → list_any (is_same x) ys ≡ false → AllByRecursion (λ y. is_same x y ≡ false) ys
unlike x [] e = tt
unlike x (y ∷ ys) e = let both = or_parts (is_same x y) (list_any (is_same x) ys) e in (both.0, unlike x ys both.1)

distinct_ids : (ids : List Hash16) → has_repeat ids ≡ false → IsDistinct is_same ids
unfolding has_repeat IsDistinct
distinct_ids [] e = tt
distinct_ids (x ∷ xs) e =
    let both = or_parts (list_any (is_same x) xs) (has_repeat xs) e in (unlike x xs both.0, distinct_ids xs both.1)

less_from : (o : Ordering) → is_gt o ≡ false → is_eq o ≡ false → o ≡ Less
less_from Less e f = refl
less_from Equal e f = absurd (false≢true (sym f))
less_from Greater e f = absurd (false≢true (sym e))

below_each : (x : Hash16) (ys : List Hash16) → AllByRecursion (IsAtMost x) ys → AllByRecursion (λ y. is_same x y ≡ false) ys
    → AllByRecursion (λ y. id_cmp x y ≡ Less) ys
below_each x [] h k = tt
below_each x (y ∷ ys) h k =
    (less_from (id_cmp x y) h.0 (sym (bytes_eq-reversed x.0 y.0) ∙ k.0), below_each x ys h.1 k.1)

rising : (ids : List Hash16) → InOrder ids → IsDistinct is_same ids → IsStrictlySortedBy id_cmp ids
unfolding IsDistinct IsStrictlySortedBy
rising [] h k = tt
rising (x ∷ xs) h k = (below_each x xs (recursion_from_All (IsAtMost x) xs h.0) k.0, rising xs h.1 k.1)

pub rising_ids : (ids : List Hash16) → has_repeat ids ≡ false → IsStrictlySortedBy id_cmp (ids_in_order ids)
rising_ids ids e =
    rising (ids_in_order ids) (ordered ids)
    (IsDistinct-IsPermutation is_same (λ x y. nat_list_eq_equiv.symm x.0 y.0) ids (ids_in_order ids) (order_moves ids) (distinct_ids ids e))

-- ---- the set shows the IDs of the described files
pub shown_ids : (found : BTreeMap Hash16 Ifsc) (files : List Desc)
    → map (λ f. f.id) (map set_file_of (file_views found files)) ≡ map (λ file. file.id) files
shown_ids found [] = refl
shown_ids found (file ∷ files) = ap (λ ids. file.id ∷ ids) (shown_ids found files)
