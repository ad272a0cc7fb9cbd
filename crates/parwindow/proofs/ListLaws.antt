-- Lists of items of any type.
use Rattle.std.proofs.Common.{◌≡◌, ℕ, ◌+◌, ◌-◌, ◌<◌, ◌≤◌, zero, suc, Bool, true, false, cond, nat_lt, List, [], ◌∷◌, ◌++◌, ◌&&◌, length, take, drop, get_or, refl, sym, ap, ◌∙◌, arith, zero-add, inl, inr, length-drop, length-take, get_or-drop}
use Rattle.std.specs.Prelude.{All, Contains}
use Rattle.std.specs.Cmp.{IsStrictWeakOrder}
use Rattle.std.specs.List.{AllWithin, count_by, filter, list_any, range_with_len}
use Rattle.std.specs.List.Sorted.{IsSortedBy}
use Rattle.std.proofs.lemmas.Bool.{cases_Bool, false_from_ne_true, lt-ltb}
use Rattle.std.proofs.lemmas.List.{take_all, get_or-take}
use Rattle.std.proofs.lemmas.List.Folds.{list_any_more}
use Rattle.std.proofs.lemmas.List.Sums.{count_by-le-length, length-filter, sum_by-cons, sum_by_push}
use Rattle.std.proofs.lemmas.List.Elements.{All-filter, filter_agree}
use Rattle.std.proofs.lemmas.List.Sorted.{sorted_far}

-- the items from index k on, as the code writes it: `&items[k..]`
pub rest_is : {A : Type 0} (xs : List A) (k : ℕ) → take (length xs - k) (drop k xs) ≡ drop k xs
rest_is xs k = take_all (length xs - k) (drop k xs) (omega (arith, length-drop k xs))

-- if no item before index i passes a test and item i doesn't, none of the first i + 1 passes
pub none_more : {A : Type 0} (p : A → Bool) (xs : List A) (i : ℕ) (d : A) → i < length xs
    → list_any p (take i xs) ≡ false
    → p (get_or xs i d) ≡ false → list_any p (take (i + 1) xs) ≡ false
none_more p xs i d within none shut = list_any_more p xs i d within ∙ (rw (none, shut) refl)

-- the first m of the first n items are the first m items
pub take_fewer : {A : Type 0} (m n : ℕ) (xs : List A) → m ≤ n → take m (take n xs) ≡ take m xs
take_fewer zero n xs few = refl
take_fewer (suc m) zero xs few = absurd (omega arith)
take_fewer (suc m) (suc n) [] few = refl
take_fewer (suc m) (suc n) (x ∷ xs) few = ap (λ l. x ∷ l) (take_fewer m n xs (omega arith))

-- if only the items from index `from` up to from + n pass a test, filtering returns these items
pub filter_between : {A : Type 0} (p : A → Bool) (xs : List A) (from n : ℕ) → from + n ≤ length xs
    → AllWithin (λ x. p x ≡ false) xs 0 from
    → AllWithin (λ x. p x ≡ true) xs from (from + n)
    → AllWithin (λ x. p x ≡ false) xs (from + n) (length xs)
    → take n (drop from xs) ≡ filter p xs
filter_between p [] zero zero few before those after = refl
filter_between p [] zero (suc n) few before those after = absurd (omega arith)
filter_between p [] (suc from) n few before those after = absurd (omega arith)
filter_between p (x ∷ xs) (suc from) n few before those after =
    let fails : p x ≡ false = before 0 x (omega arith) (omega arith) in
    rw fails (filter_between p xs from n (omega arith)
    (λ k d low high. before (suc k) d (omega arith) (omega arith))
    (λ k d low high. those (suc k) d (omega arith) (omega arith))
    (λ k d low high. after (suc k) d (omega arith) (omega arith)))
filter_between p (x ∷ xs) zero zero few before those after =
    let fails : p x ≡ false = after 0 x (omega arith) (omega arith) in
    rw fails (filter_between p xs 0 0 (omega arith)
    (λ k d low high. absurd (omega arith))
    (λ k d low high. absurd (omega arith))
    (λ k d low high. after (suc k) d (omega arith) (omega arith)))
filter_between p (x ∷ xs) zero (suc n) few before those after =
    let passes : p x ≡ true = those 0 x (omega arith) (omega arith) in
    rw passes (ap (λ l. x ∷ l) (filter_between p xs 0 n (omega arith)
    (λ k d low high. absurd (omega arith))
    (λ k d low high. those (suc k) d (omega arith) (omega arith))
    (λ k d low high. after (suc k) d (omega arith) (omega arith))))

-- filtering by a weaker test first leaves nothing out
pub filter_twice : {A : Type 0} (p q : A → Bool) → ((x : A) → q x ≡ true → p x ≡ true)
    → (xs : List A) → filter q (filter p xs) ≡ filter q xs
filter_twice p q weaker [] = refl
filter_twice p q weaker (x ∷ xs) = elim (cases_Bool (p x)) [
  | inl passes ↦ rw passes (ap (λ l. cond (q x) (x ∷ l) l) (filter_twice p q weaker xs))
  | inr fails ↦
      let other : q x ≡ false =
      false_from_ne_true (q x) (λ h. let wrong : p x ≡ true = weaker x h in cc) in
      rw (fails, other) (filter_twice p q weaker xs)
]

-- an item that passes a test is in the filtered list
pub contains_filter : {A : Type 0} (p : A → Bool) (xs : List A) (x : A) → p x ≡ true → (k : ℕ)
    → k < length xs
    → get_or xs k x ≡ x → Contains (filter p xs) x
contains_filter p [] x passes k within is = absurd (omega arith)
contains_filter p (y ∷ ys) x passes zero within is =
    let here : p y ≡ true = rw is passes in
    rw here (0, omega arith, is)
contains_filter p (y ∷ ys) x passes (suc k) within is =
    let there = contains_filter p ys x passes k (omega arith) is in
    elim (cases_Bool (p y)) [
      | inl kept ↦ rw kept (suc there.0, omega (arith, there.1), there.2)
      | inr gone ↦ rw gone there
    ]

-- no more items pass a test than there are
pub few_pass : {A : Type 0} (p : A → Bool) (xs : List A) → length (filter p xs) ≤ length xs
few_pass p xs = rw length-filter (count_by-le-length p xs)

-- some item passes a test exactly if the filtered list isn't empty
pub some_left : {A : Type 0} (p : A → Bool) (xs : List A)
    → nat_lt 0 (length (filter p xs)) ≡ list_any p xs
some_left p [] = refl
some_left p (x ∷ xs) = elim (cases_Bool (p x)) [
  | inl passes ↦ rw passes (lt-ltb 0 (length (x ∷ filter p xs)) (omega arith))
  | inr fails ↦ rw fails (some_left p xs)
]

-- consecutive numbers, and one number more at their end
range_more : (first n next : ℕ) → first + n ≡ next
    → range_with_len first (n + 1) ≡ range_with_len first n ++ next ∷ []
range_more first zero next is = let same : first ≡ next = omega arith in ap (λ k. k ∷ []) same
range_more first (suc n) next is =
    let one : suc n + 1 ≡ suc (n + 1) = omega arith in
    ap (range_with_len first) one
    ∙ ap (λ l. first ∷ l) (range_more (first + 1) n next (omega arith))

pub count_range_more : (p : ℕ → Bool) (n : ℕ)
    → count_by p (range_with_len 0 (n + 1)) ≡ count_by p (range_with_len 0 n) + cond (p n) 1 0
count_range_more p n =
    ap (count_by p) (range_more 0 n n (omega arith))
    ∙ sum_by_push (λ k. cond (p k) 1 0) (range_with_len 0 n) n

-- counting from first + 1 on gives the number of those from `first` on whose
-- successors pass the test
pub count_range_rest : (p : ℕ → Bool) (first n : ℕ)
    → count_by p (range_with_len (first + 1) n) ≡ count_by (λ k. p (suc k)) (range_with_len first n)
count_range_rest p first zero = refl
count_range_rest p first (suc n) =
    let one : first + 1 ≡ suc first = omega arith in
    sum_by-cons (λ k. cond (p k) 1 0) (first + 1) (range_with_len (first + 1 + 1) n)
    ∙ (rw (count_range_rest p (first + 1) n, one) refl)
    ∙ sym (sum_by-cons (λ k. cond (p (suc k)) 1 0) first (range_with_len (first + 1) n))

-- two tests that agree on all items count the same number
pub count_agree : {A : Type 0} (p q : A → Bool) → ((x : A) → p x ≡ q x) → (xs : List A)
    → count_by p xs ≡ count_by q xs
count_agree p q same xs =
    sym (length-filter p xs) ∙ ap length (filter_agree p q same xs) ∙ length-filter q xs

-- of the items that pass one test, those that pass another are those that pass both
pub count_filter : {A : Type 0} (p q both : A → Bool) → ((x : A) → both x ≡ (p x && q x))
    → (xs : List A) → count_by q (filter p xs) ≡ count_by both xs
count_filter p q both is [] = refl
count_filter p q both is (x ∷ xs) =
    let rest = count_filter p q both is xs in
    elim (cases_Bool (p x)) [
      | inl passes ↦
          let here : both x ≡ q x = rw passes at (is x) in
          rw passes (sum_by-cons (λ y. cond (q y) 1 0) x (filter p xs)
          ∙ (rw (rest, ← here) refl)
          ∙ sym (sum_by-cons (λ y. cond (both y) 1 0) x xs))
      | inr fails ↦
          let here : both x ≡ false = rw fails at (is x) in
          rw fails (rest ∙ sym (sum_by-cons (λ y. cond (both y) 1 0) x xs ∙ (rw here (zero-add _))))
    ]

-- the items of a sorted list that pass a test are sorted
sorted_cons : {A : Type 0} (lt : A → A → Bool) (x : A) (ys : List A)
    → All (λ y. lt y x ≡ false) ys
    → IsSortedBy lt ys → IsSortedBy lt (x ∷ ys)
sorted_cons lt x ys above rises zero d low high = above 0 d (omega arith)
sorted_cons lt x ys above rises (suc k) d low high =
    let one : suc k + 1 ≡ suc (k + 1) = omega arith in
    rw one (rises k d (omega arith) (omega arith))

pub sorted_filter : {A : Type 0} (lt : A → A → Bool) → IsStrictWeakOrder lt → (p : A → Bool)
    (xs : List A) → IsSortedBy lt xs → IsSortedBy lt (filter p xs)
sorted_filter lt order p [] rises = rises
sorted_filter lt order p (x ∷ xs) rises =
    let rest = sorted_filter lt order p xs (λ k d low high.
    let one : suc k + 1 ≡ suc (k + 1) = omega arith in
    rw one at (rises (suc k) d (omega arith) (omega arith))) in
    elim (cases_Bool (p x)) [
      | inl passes ↦ rw passes (sorted_cons lt x (filter p xs)
          (All-filter p (λ y. lt y x ≡ false) xs
          (λ k d within. sorted_far lt order (x ∷ xs) rises 0 (suc k) d (omega arith) (omega arith)))
          rest)
      | inr fails ↦ rw fails rest
    ]

-- a part of a sorted list is sorted
pub sorted_part : {A : Type 0} (lt : A → A → Bool) (xs : List A) (from n : ℕ) → IsSortedBy lt xs
    → IsSortedBy lt (take n (drop from xs))
sorted_part lt xs from n rises k d low high =
    let short : k + 1 < n = omega (arith, length-take n (drop from xs)) in
    let inside : from + k + 1 < length xs =
    omega (arith, length-take n (drop from xs), length-drop from xs) in
    let same : from + (k + 1) ≡ from + k + 1 = omega arith in
    let one : get_or (take n (drop from xs)) k d ≡ get_or xs (from + k) d =
    get_or-take n (drop from xs) k d (omega arith) ∙ get_or-drop from xs k d in
    let next : get_or (take n (drop from xs)) (k + 1) d ≡ get_or xs (from + k + 1) d =
    get_or-take n (drop from xs) (k + 1) d short ∙ get_or-drop from xs (k + 1) d
    ∙ ap (λ m. get_or xs m d) same in
    rw (one, next) (rises (from + k) d (omega arith) inside)
