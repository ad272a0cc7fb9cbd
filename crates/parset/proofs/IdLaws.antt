-- IDs can be sorted in one way only: two sorted lists of the same IDs are equal.
use Rattle.std.proofs.Common.{◌≡◌, ℕ, ◌+◌, ◌<◌, ◌∙◌, ⊎_elim, ap, sym, subst, refl, true, false, cond, List, [], ◌∷◌, length, get_or, Ordering, Less, Equal, Greater, arith, reverse, bytes_eq, suc}
use Rattle.std.specs.List.{All, sum_by}
use Rattle.std.specs.List.Sorted.{IsPermutation, IsSorted}
use Rattle.std.specs.Cmp.{IsTotalOrder}
use Rattle.std.specs.Ordering.{is_lt, is_eq, is_gt, ordering_reverse}
use Rattle.std.proofs.lemmas.Bool.{cases_Bool, false≢true}
use Rattle.std.proofs.lemmas.Cmp.{nat_list_cmp_total, on_total, tied_itself, upto}
use Rattle.std.proofs.lemmas.List.Elements.{All-nil, All-cons, All-head, All-tail, All-weaker}
use Rattle.std.proofs.lemmas.List.Sorted.{IsPermutation-refl, IsPermutation-cons, IsPermutation-trans, IsPermutation-sym, IsPermutation-middle, All-permutation, sorted_far, ranks_by, sum_by-IsPermutation, length_permutation}
use Rattle.std.proofs.lemmas.List.Sums.{sum_by-cons}
use Rattle.std.proofs.lemmas.Slice.Eq.{bytes_eq-Decides}
use Rattle.parfield.specs.HashOrder.{id_cmp, bytes_eq-reversed}
use Rattle.parfield.specs.declared.hash16.Hash16.{Hash16}
use Rattle.parset.specs.RecoverySet.{ids_in_order, insertion_of}

pub id_cmp_total : IsTotalOrder id_cmp
id_cmp_total = on_total (λ (id : Hash16). reverse id.0) nat_list_cmp_total

-- ---- results of the order
gt_reversed : (o : Ordering) → is_gt (ordering_reverse o) ≡ is_lt o
gt_reversed Less = refl
gt_reversed Equal = refl
gt_reversed Greater = refl

gt_back : (x y : Hash16) → is_gt (id_cmp x y) ≡ is_lt (id_cmp y x)
gt_back x y = ap is_gt (id_cmp_total.antisymm x y) ∙ gt_reversed (id_cmp y x)

not_gt_from_lt : (o : Ordering) → is_lt o ≡ true → is_gt o ≡ false
not_gt_from_lt Less e = refl
not_gt_from_lt Equal e = refl
not_gt_from_lt Greater e = absurd (false≢true e)

eq_from_neither : (o : Ordering) → is_lt o ≡ false → is_gt o ≡ false → is_eq o ≡ true
eq_from_neither Less e f = absurd (false≢true (sym e))
eq_from_neither Equal e f = refl
eq_from_neither Greater e f = absurd (false≢true (sym f))

pub same_id : (x y : Hash16) → bytes_eq x.0 y.0 ≡ true → x ≡ y
same_id x y e =
    let bytes : x.0 ≡ y.0 = (bytes_eq-Decides x.0 y.0).0 e in
    let hash : List ℕ → Hash16 = λ bs. record { 0 = bs } in ap hash bytes

pub same_from_eq : (x y : Hash16) → is_eq (id_cmp x y) ≡ true → x ≡ y
same_from_eq x y e = same_id x y (bytes_eq-reversed x.0 y.0 ∙ e)

-- ---- sorted lists
abbrev pub IsAtMost : Hash16 → Hash16 → Type 0
IsAtMost x y = is_gt (id_cmp x y) ≡ false

abbrev pub InOrder : List Hash16 → Type 0
InOrder [] = Unit {0}
InOrder (x ∷ xs) = All (IsAtMost x) xs × InOrder xs

sorted_rest : (x : Hash16) (xs : List Hash16) → IsSorted id_cmp (x ∷ xs) → IsSorted id_cmp xs
sorted_rest x xs up = λ k d low high.
    let e : suc k + 1 ≡ suc (k + 1) = omega arith in
    subst (λ n. is_lt (id_cmp (get_or (x ∷ xs) n d) (get_or xs k d)) ≡ false) e (up (suc k) d (omega arith) (omega arith))

in_order_from_sorted : (xs : List Hash16) → IsSorted id_cmp xs → InOrder xs
in_order_from_sorted [] up = tt
in_order_from_sorted (x ∷ xs) up = (
  λ k d h. gt_back x (get_or xs k d) ∙ sorted_far (λ a b. is_lt (id_cmp a b)) (ranks_by id_cmp_total (λ (id : Hash16). id)) (x ∷ xs) up 0 (suc k) d (omega arith) (omega arith),
  in_order_from_sorted xs (sorted_rest x xs up),
)

-- ---- an ID put in its place
put_moves : (id : Hash16) (ids : List Hash16) → IsPermutation (id ∷ ids) (insertion_of id ids)
unfolding insertion_of
put_moves id [] = IsPermutation-refl (id ∷ [])
put_moves id (x ∷ xs) =
    elim (is_lt (id_cmp x id)) as (λ b. IsPermutation (id ∷ x ∷ xs) (cond b (x ∷ insertion_of id xs) (id ∷ x ∷ xs))) [
      | true ↦ IsPermutation-trans _ _ _ (IsPermutation-sym _ _ (IsPermutation-middle (x ∷ []) id xs)) (IsPermutation-cons x _ _ (put_moves id xs))
      | false ↦ IsPermutation-refl (id ∷ x ∷ xs)
    ]

put_orders : (id : Hash16) (ids : List Hash16) → InOrder ids → InOrder (insertion_of id ids)
unfolding insertion_of
put_orders id [] h = (All-nil (IsAtMost id), tt)
put_orders id (x ∷ xs) h =
    ⊎_elim
    (λ below. rw below (
      All-permutation (IsAtMost x) (id ∷ xs) (insertion_of id xs) (put_moves id xs) (All-cons (IsAtMost x) id xs (not_gt_from_lt _ below) h.0),
      put_orders id xs h.1,
    ))
    (λ above. let first : IsAtMost id x = gt_back id x ∙ above in
    rw above (All-cons (IsAtMost id) x xs first (All-weaker (IsAtMost x) (IsAtMost id) (λ y le. upto id_cmp_total id x y first le) xs h.0), h))
    (cases_Bool (is_lt (id_cmp x id)))

pub order_moves : (ids : List Hash16) → IsPermutation ids (ids_in_order ids)
unfolding ids_in_order
order_moves [] = IsPermutation-refl []
order_moves (id ∷ ids) =
    IsPermutation-trans _ _ _ (IsPermutation-cons id _ _ (order_moves ids)) (put_moves id (ids_in_order ids))

pub ordered : (ids : List Hash16) → InOrder (ids_in_order ids)
unfolding ids_in_order
ordered [] = tt
ordered (id ∷ ids) = put_orders id (ids_in_order ids) (ordered ids)

-- ---- how often an ID is in a list
abbrev one_if_same : Hash16 → Hash16 → ℕ
one_if_same z x = cond (is_eq (id_cmp z x)) 1 0

abbrev tally : Hash16 → List Hash16 → ℕ
tally z xs = sum_by (one_if_same z) xs

itself : (x : Hash16) → one_if_same x x ≡ 1
itself x = ap (λ o. cond (is_eq o) 1 0) (tied_itself id_cmp_total x)

-- a fact that holds for all IDs of a list holds for one that is in it
found : (P : Hash16 → Type 0) (z : Hash16) (xs : List Hash16) → All P xs → 0 < tally z xs → P z
found P z [] h there = absurd (omega arith)
found P z (x ∷ xs) h there =
    ⊎_elim
    (λ e. subst P (sym (same_from_eq z x e)) (All-head P x xs h))
    (λ e. found P z xs (All-tail P x xs h)
    (let none : one_if_same z x ≡ 0 = ap (λ b. cond b 1 0) e in omega (arith, sum_by-cons (one_if_same z) x xs)))
    (cases_Bool (is_eq (id_cmp z x)))

at_most_itself : (x : Hash16) → IsAtMost x x
at_most_itself x = ap is_gt (tied_itself id_cmp_total x)

same_heads : (x y : Hash16) (xs ys : List Hash16) → All (IsAtMost x) xs → All (IsAtMost y) ys
    → ((z : Hash16) → tally z (x ∷ xs) ≡ tally z (y ∷ ys)) → x ≡ y
same_heads x y xs ys h k same =
    let there : 0 < tally x (y ∷ ys) = omega (arith, same x, itself x, sum_by-cons (one_if_same x) x xs) in
    let back : 0 < tally y (x ∷ xs) = omega (arith, same y, itself y, sum_by-cons (one_if_same y) y ys) in
    let le : IsAtMost y x = found (IsAtMost y) x (y ∷ ys) (All-cons (IsAtMost y) y ys (at_most_itself y) k) there in
    let ge : IsAtMost x y = found (IsAtMost x) y (x ∷ xs) (All-cons (IsAtMost x) x xs (at_most_itself x) h) back in
    same_from_eq x y (eq_from_neither (id_cmp x y) (sym (gt_back y x) ∙ le) ge)

one_order : (xs ys : List Hash16) → InOrder xs → InOrder ys → ((z : Hash16) → tally z xs ≡ tally z ys) → xs ≡ ys
one_order [] [] h k same = refl
one_order [] (y ∷ ys) h k same = absurd (omega (arith, same y, itself y, sum_by-cons (one_if_same y) y ys))
one_order (x ∷ xs) [] h k same = absurd (omega (arith, same x, itself x, sum_by-cons (one_if_same x) x xs))
one_order (x ∷ xs) (y ∷ ys) h k same =
    let heads = same_heads x y xs ys h.0 k.0 same in
    let tails : xs ≡ ys = one_order xs ys h.1 k.1 (λ z.
    omega (arith, same z, ap (one_if_same z) heads, sum_by-cons (one_if_same z) x xs, sum_by-cons (one_if_same z) y ys)) in
    ap (λ z. z ∷ xs) heads ∙ ap (λ zs. y ∷ zs) tails

pub sorted_is_in_order : (xs ys : List Hash16) → IsPermutation xs ys → IsSorted id_cmp ys → ys ≡ ids_in_order xs
sorted_is_in_order xs ys moved up =
    one_order ys (ids_in_order xs) (in_order_from_sorted ys up) (ordered xs) (λ z.
    sum_by-IsPermutation (one_if_same z) xs ys moved ∙ sym (sum_by-IsPermutation (one_if_same z) xs (ids_in_order xs) (order_moves xs)))

pub length-ids_in_order : (xs : List Hash16) → length (ids_in_order xs) ≡ length xs
length-ids_in_order xs = length_permutation xs (ids_in_order xs) (order_moves xs)
