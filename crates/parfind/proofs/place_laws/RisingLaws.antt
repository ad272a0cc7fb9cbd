-- A list whose elements rise by their cursors, and its parts between cursors.
use Rattle.std.proofs.Common.{◌≡◌, ℕ, zero, suc, true, false, Some, slice_get, take, List, [], ◌∷◌, ◌++◌, filter, refl, sym, ap, subst, ◌∙◌, inl, inr}
use Rattle.std.proofs.lemmas.Bool.{cases_Bool, not_from_false}
use Rattle.std.proofs.lemmas.List.Elements.{filter-append}
use Rattle.parfind.specs.declared.cursors.cursor.Cursor.{Cursor}
use Rattle.parfind.specs.Order.{is_before, is_from}
use Rattle.parfind.proofs.place_laws.CursorOrderLaws.{Before, From, Before-by_test, From-by_not_before, From-by_test, is_before-true, is_before-false, is_from-true, is_from-false, From-trans, Before-From, From-before}
use Rattle.parfind.proofs.place_laws.ItemLaws.{Each, Each-weaker, Each-has, Each-filter, Each-slice_get, Has, Pairs, Pairs-filter, filter_all, filter_none, filter_weaker, filter_stronger}

module _ {A : Type 0} (key : A → Cursor) where
  abbrev pub Rises : List A → Type 0
  Rises xs = Pairs (λ x y. Before (key x) (key y)) xs

  -- the elements that are not before a cursor
  abbrev pub part_from : Cursor → List A → List A
  part_from a xs = filter (λ x. is_from a (key x)) xs

  -- the elements that are before a cursor
  abbrev pub part_before : Cursor → List A → List A
  part_before b xs = filter (λ x. is_before (key x) b) xs

  -- the elements from one cursor on that are before another
  abbrev pub part_between : Cursor → Cursor → List A → List A
  part_between a b xs = part_before b (part_from a xs)

  pub Rises-part_from : (a : Cursor) (xs : List A) → Rises xs → Rises (part_from a xs)
  Rises-part_from a xs h = Pairs-filter (λ x y. Before (key x) (key y)) (λ x. is_from a (key x)) xs h

  -- the elements before a cursor, followed by those from it on, are the whole list
  pub before_and_from : (c : Cursor) (xs : List A) → Rises xs → part_before c xs ++ part_from c xs ≡ xs
  before_and_from c [] h = refl
  before_and_from c (x ∷ xs) h = elim (cases_Bool (is_before (key x) c)) [
    | inl e ↦ rw e (ap (λ ys. x ∷ ys) (before_and_from c xs h.1))
    | inr e ↦
        let here : From c (key x) = From-by_not_before (key x) c e in
        let later : Each (λ y. is_before (key y) c ≡ false) xs =
        Each-weaker (λ y. Before (key x) (key y)) (λ y. is_before (key y) c ≡ false)
        (λ y b. is_before-false (key y) c (From-trans c (key x) (key y) here (From-before (key x) (key y) b))) xs h.0 in
        let later' : Each (λ y. is_from c (key y) ≡ true) xs =
        Each-weaker (λ y. is_before (key y) c ≡ false) (λ y. is_from c (key y) ≡ true)
        (λ y k. not_from_false _ k) xs later in
        rw (e, filter_none (λ y. is_before (key y) c) xs later, filter_all (λ y. is_from c (key y)) xs later') refl
  ]

  from_later : (a b : Cursor) → From a b → (xs : List A) → part_from b (part_from a xs) ≡ part_from b xs
  from_later a b on xs =
      filter_weaker (λ x. is_from a (key x)) (λ x. is_from b (key x))
      (λ x k. is_from-true a (key x) (From-trans a b (key x) on (From-by_test b (key x) k))) xs

  pub between_and_from : (a b : Cursor) → From a b → (xs : List A) → Rises xs
      → part_between a b xs ++ part_from b xs ≡ part_from a xs
  between_and_from a b on xs rises =
      ap (λ ys. part_between a b xs ++ ys) (sym (from_later a b on xs))
      ∙ before_and_from b (part_from a xs) (Rises-part_from a xs rises)

  pub between_and_between : (a b c : Cursor) → From a b → From b c → (xs : List A) → Rises xs
      → part_between a b xs ++ part_between b c xs ≡ part_between a c xs
  between_and_between a b c on on' xs rises =
      let early : part_before c (part_between a b xs) ≡ part_between a b xs =
      filter_stronger (λ x. is_before (key x) c) (λ x. is_before (key x) b)
      (λ x e. is_before-true (key x) c (Before-From (key x) b c (Before-by_test (key x) b e) on')) (part_from a xs) in
      ap (λ ys. ys ++ part_between b c xs) (sym early)
      ∙ sym (filter-append (λ x. is_before (key x) c) (part_between a b xs) (part_from b xs))
      ∙ ap (λ ys. part_before c ys) (between_and_from a b on xs rises)

  -- the elements after the first one from cursor a on are those from b on, if b is just after that
  -- first one
  pub from_head : (a b : Cursor) (x : A) (xs ys : List A) → Rises xs → part_from a xs ≡ x ∷ ys
      → From a b → Before (key x) b → ((y : A) → Before (key x) (key y) → From b (key y)) → ys ≡ part_from b xs
  from_head a b x xs ys rises begins on here later =
      let rises' : Rises (x ∷ ys) = subst Rises begins (Rises-part_from a xs rises) in
      let all : Each (λ y. is_from b (key y) ≡ true) ys =
      Each-weaker (λ y. Before (key x) (key y)) (λ y. is_from b (key y) ≡ true)
      (λ y k. is_from-true b (key y) (later y k)) ys rises'.0 in
      let front : part_from b (x ∷ ys) ≡ ys =
      rw (is_from-false b (key x) here) (filter_all (λ y. is_from b (key y)) ys all) in
      sym front ∙ ap (part_from b) (sym begins) ∙ from_later a b on xs

  only_head : (a b : Cursor) (x : A) (xs : List A) → Rises (x ∷ xs) → From a (key x) → Before (key x) b
      → ((y : A) → Before (key x) (key y) → From b (key y)) → part_between a b (x ∷ xs) ≡ x ∷ []
  only_head a b x xs rises there here later =
      let not_before : Each (λ y. is_before (key y) b ≡ false) xs =
      Each-weaker (λ y. Before (key x) (key y)) (λ y. is_before (key y) b ≡ false)
      (λ y k. is_before-false (key y) b (later y k)) xs rises.0 in
      let kept : Each (λ y. is_before (key y) b ≡ false) (part_from a xs) =
      Each-filter (λ y. is_before (key y) b ≡ false) (λ y. is_from a (key y)) xs not_before in
      rw (is_from-true a (key x) there, is_before-true (key x) b here)
      (ap (λ ys. x ∷ ys) (filter_none (λ y. is_before (key y) b) (part_from a xs) kept))

  -- an element that lies between two cursors is the only one there, if each earlier one is before
  -- the first cursor and each later one not before the second
  pub only_between : (a b : Cursor) (x : A) (xs : List A) → Rises xs → Has xs x → From a (key x) → Before (key x) b
      → ((y : A) → Before (key x) (key y) → From b (key y)) → ((y : A) → Before (key y) (key x) → Before (key y) a)
      → part_between a b xs ≡ x ∷ []
  only_between a b x [] rises has there here later earlier = absurd has
  only_between a b x (y ∷ ys) rises has there here later earlier = elim has [
    | inl e ↦
        subst (λ z. part_between a b (z ∷ ys) ≡ x ∷ []) (sym e)
        (only_head a b x ys (subst (λ z. Rises (z ∷ ys)) e rises) there here later)
    | inr k ↦
        let front : Before (key y) a = earlier y (Each-has (λ z. Before (key y) (key z)) ys x rises.0 k) in
        rw (is_from-false a (key y) front) (only_between a b x ys rises.1 k there here later earlier)
  ]

  -- if no element lies between two cursors, the part between them is empty
  pub none_between : (a b : Cursor) (xs : List A) → ((y : A) → Has xs y → From a (key y) → From b (key y))
      → part_between a b xs ≡ []
  none_between a b [] f = refl
  none_between a b (x ∷ xs) f = elim (cases_Bool (is_from a (key x))) [
    | inl e ↦
        let late : is_before (key x) b ≡ false = is_before-false (key x) b (f x (inl refl) (From-by_test a (key x) e)) in
        rw (e, late) (none_between a b xs (λ y h. f y (inr h)))
    | inr e ↦ rw e (none_between a b xs (λ y h. f y (inr h)))
  ]

  -- the elements before the cursor just after element number m are the first m + 1 ones
  pub before_nth : (xs : List A) (m : ℕ) (x : A) (b : Cursor) → Rises xs → slice_get xs m ≡ Some x → Before (key x) b
      → ((y : A) → Before (key x) (key y) → From b (key y)) → part_before b xs ≡ take (suc m) xs
  before_nth [] m x b rises at here later = cc
  before_nth (z ∷ xs) zero x b rises at here later =
      let same : z ≡ x = cc in
      let not_before : Each (λ y. is_before (key y) b ≡ false) xs =
      Each-weaker (λ y. Before (key z) (key y)) (λ y. is_before (key y) b ≡ false)
      (λ y k. is_before-false (key y) b (later y (subst (λ v. Before (key v) (key y)) same k))) xs rises.0 in
      let first : is_before (key z) b ≡ true = is_before-true (key z) b (subst (λ v. Before (key v) b) (sym same) here) in
      rw (first, filter_none (λ y. is_before (key y) b) xs not_before) refl
  before_nth (z ∷ xs) (suc m) x b rises at here later =
      let early : Before (key z) (key x) = Each-slice_get (λ y. Before (key z) (key y)) xs m x rises.0 at in
      let first : is_before (key z) b ≡ true = is_before-true (key z) b (Before-From (key z) (key x) b early (From-before (key x) b here)) in
      rw first (ap (λ ys. z ∷ ys) (before_nth xs m x b rises.1 at here later))
