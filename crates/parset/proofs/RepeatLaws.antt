-- An ID is listed twice exactly if the sorted list isn't strictly increasing.
use Rattle.std.proofs.Common.{◌≡◌, ℕ, ◌+◌, ◌<◌, ◌∙◌, ⊎_elim, subst, Bool, true, false, not, List, [], ◌∷◌, length, get_or, map, sym, ap, refl, bytes_eq, nat_cmp, Ordering, Less, Equal, Greater, arith}
use Rattle.std.specs.Cmp.Lexicographic.{slice_cmp}
use Rattle.std.specs.List.{AllAdjacentBelow, AllByRecursion, IsAllAdjacentAnswer, IsDistinct, list_any}
use Rattle.std.specs.List.Sorted.{IsPermutation, IsSorted}
use Rattle.std.specs.Ordering.{is_lt, is_eq, ordering_reverse}
use Rattle.std.proofs.lemmas.Bool.{cases_Bool, false≢true, or_from, or_parts}
use Rattle.std.proofs.lemmas.Cmp.{nat_list_cmp_total, nat_list_eq_equiv}
use Rattle.std.proofs.lemmas.List.Sorted.{IsPermutation-sym}
use Rattle.std.proofs.lemmas.Map.Keys.{IsDistinct-from_sorted, IsDistinct-IsPermutation, IsDistinct-head, IsDistinct-tail, apart_from_distinct, sorted_from_all_adjacent}
use Rattle.std.proofs.lemmas.Map.Text.{is_eq-slice_cmp}
use Rattle.parfield.specs.declared.hash16.Hash16.{Hash16}
use Rattle.parset.specs.Bodies.{hash_of}
use Rattle.parset.specs.Reasons.{has_repeat}

-- the order of arrays of bytes
abbrev pub order : List ℕ → List ℕ → Ordering
order = slice_cmp nat_cmp

-- ---- no ID is listed twice exactly if the arrays are distinct
none_like : (x : List ℕ) (ys : List (List ℕ)) → AllByRecursion (λ y. bytes_eq x y ≡ false) ys
    → list_any (λ (y : Hash16). bytes_eq x y.0) (map hash_of ys) ≡ false
none_like x [] h = refl
none_like x (y ∷ ys) h = or_from _ _ h.0 (none_like x ys h.1)

all_unlike : (x : List ℕ) (ys : List (List ℕ)) → list_any (λ (y : Hash16). bytes_eq x y.0) (map hash_of ys) ≡ false
    → AllByRecursion (λ y. bytes_eq x y ≡ false) ys
all_unlike x [] h = tt
all_unlike x (y ∷ ys) h = let both = or_parts _ _ h in (both.0, all_unlike x ys both.1)

has_repeat-from_distinct : (xs : List (List ℕ)) → IsDistinct bytes_eq xs → has_repeat (map hash_of xs) ≡ false
unfolding has_repeat
has_repeat-from_distinct [] h = refl
has_repeat-from_distinct (x ∷ xs) h =
    or_from _ _ (none_like x xs (IsDistinct-head bytes_eq x xs h)) (has_repeat-from_distinct xs (IsDistinct-tail bytes_eq x xs h))

distinct_from_no_repeat : (xs : List (List ℕ)) → has_repeat (map hash_of xs) ≡ false → IsDistinct bytes_eq xs
unfolding has_repeat IsDistinct
distinct_from_no_repeat [] h = tt
distinct_from_no_repeat (x ∷ xs) h =
    let both = or_parts _ _ h in (all_unlike x xs both.0, distinct_from_no_repeat xs both.1)

-- ---- sorted arrays
Less-from_is_lt : (o : Ordering) → true ≡ is_lt o → o ≡ Less
Less-from_is_lt Less e = refl
Less-from_is_lt Equal e = absurd (false≢true (sym e))
Less-from_is_lt Greater e = absurd (false≢true (sym e))

is_eq-from_neither : (o : Ordering) → false ≡ is_lt o → is_lt (ordering_reverse o) ≡ false → is_eq o ≡ true
is_eq-from_neither Less e f = absurd (false≢true e)
is_eq-from_neither Equal e f = refl
is_eq-from_neither Greater e f = absurd (false≢true (sym f))

distinct_from_rising : (ys : List (List ℕ)) → AllAdjacentBelow (λ x y. true ≡ is_lt (order x y)) ys (length ys) → IsDistinct bytes_eq ys
distinct_from_rising ys h =
    subst (λ e. IsDistinct e ys) (λ i x y. is_eq-slice_cmp x y i)
    (IsDistinct-from_sorted order ys (sorted_from_all_adjacent nat_list_cmp_total ys [] (λ k below. Less-from_is_lt _ (h k [] below))))

distinct_in_other_order : (xs ys : List (List ℕ)) → IsPermutation xs ys → IsDistinct bytes_eq xs → IsDistinct bytes_eq ys
distinct_in_other_order = IsDistinct-IsPermutation bytes_eq nat_list_eq_equiv.symm

-- two neighbours in a sorted list are equal if they don't increase
same_neighbours : (ys : List (List ℕ)) (k : ℕ) → IsSorted order ys → k + 1 < length ys
    → false ≡ is_lt (order (get_or ys k []) (get_or ys (k + 1) [])) → bytes_eq (get_or ys k []) (get_or ys (k + 1) []) ≡ true
same_neighbours ys k up below e =
    let a = get_or ys k [] in let b = get_or ys (k + 1) [] in
    let falls : is_lt (ordering_reverse (order a b)) ≡ false =
    ap is_lt (sym (nat_list_cmp_total.antisymm b a)) ∙ up k [] (omega arith) below in
    sym (is_eq-slice_cmp a b) ∙ is_eq-from_neither (order a b) e falls

pub has_repeat-sorted : (xs ys : List (List ℕ)) (rises : Bool) → IsPermutation xs ys → IsSorted order ys
    → IsAllAdjacentAnswer (λ x y b. b ≡ is_lt (order x y)) ys rises → not rises ≡ has_repeat (map hash_of xs)
has_repeat-sorted xs ys true p up h =
    sym (has_repeat-from_distinct xs (distinct_in_other_order ys xs (IsPermutation-sym xs ys p) (distinct_from_rising ys h)))
has_repeat-sorted xs ys false p up h =
    let k = h.0 in let same = same_neighbours ys k up h.1 (h.2 []) in
    ⊎_elim (λ repeats. sym repeats)
    (λ none. absurd (false≢true (sym (apart_from_distinct bytes_eq ys k (k + 1) [] (distinct_in_other_order xs ys p (distinct_from_no_repeat xs none)) (omega arith) h.1) ∙ same)))
    (cases_Bool (has_repeat (map hash_of xs)))
