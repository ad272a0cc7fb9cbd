-- Lists: facts about each element, the elements that a list has, and facts about each two elements
-- in their order.
use Rattle.std.proofs.Common.{◌≡◌, ℕ, ◌+◌, ◌<◌, ◌≤◌, Some, slice_get, Bool, true, false, List, [], ◌∷◌, ◌++◌, filter, map, cond, zero, suc, refl, sym, ap, subst, ◌∙◌, arith, ◌⊎◌, inl, inr}
use Rattle.std.specs.List.{All, AllPairs, Contains, flat_map, range_with_len}
use Rattle.std.proofs.lemmas.Bool.{cases_Bool, cases_eq}
use Rattle.std.proofs.lemmas.List.Elements.{All-nil, All-cons}
use Rattle.std.proofs.lemmas.List.Kept.{AllPairs-cons}

module _ {A : Type 0} where
  -- a fact is true of each element
  abbrev pub Each : (A → Type 0) → List A → Type 0
  Each P [] = Unit {0}
  Each P (x ∷ xs) = P x × Each P xs

  -- x is an element of the list
  abbrev pub Has : List A → A → Type 0
  Has [] x = ⊥
  Has (y ∷ ys) x = (y ≡ x) ⊎ Has ys x

  -- a relation holds between each element and each later one
  abbrev pub Pairs : (A → A → Type 0) → List A → Type 0
  Pairs R [] = Unit {0}
  Pairs R (x ∷ xs) = Each (R x) xs × Pairs R xs

-- facts about each element

module _ {A : Type 0} (P : A → Type 0) where
  pub Each-any : ((x : A) → P x) → (xs : List A) → Each P xs
  Each-any f [] = tt
  Each-any f (x ∷ xs) = (f x, Each-any f xs)

  pub Each-from_has : (xs : List A) → ((x : A) → Has xs x → P x) → Each P xs
  Each-from_has [] f = tt
  Each-from_has (x ∷ xs) f = (f x (inl refl), Each-from_has xs (λ y h. f y (inr h)))

  pub Each-has : (xs : List A) (x : A) → Each P xs → Has xs x → P x
  Each-has [] x h k = absurd k
  Each-has (y ∷ ys) x h k = elim k [
    | inl e ↦ subst P e h.0
    | inr has ↦ Each-has ys x h.1 has
  ]

  pub Each-slice_get : (xs : List A) (k : ℕ) (x : A) → Each P xs → slice_get xs k ≡ Some x → P x
  Each-slice_get [] k x h at = cc
  Each-slice_get (y ∷ ys) zero x h at = let e : y ≡ x = cc in subst P e h.0
  Each-slice_get (y ∷ ys) (suc k) x h at = Each-slice_get ys k x h.1 at

  pub Each-append : (xs ys : List A) → Each P xs → Each P ys → Each P (xs ++ ys)
  Each-append [] ys h k = k
  Each-append (x ∷ xs) ys h k = (h.0, Each-append xs ys h.1 k)

  pub Each-filter : (p : A → Bool) (xs : List A) → Each P xs → Each P (filter p xs)
  Each-filter p [] h = tt
  Each-filter p (x ∷ xs) h = elim (p x) as (λ t. Each P (cond t (x ∷ filter p xs) (filter p xs))) [
    | true ↦ (h.0, Each-filter p xs h.1)
    | false ↦ Each-filter p xs h.1
  ]

  pub Each-map : {B : Type 0} (f : B → A) (xs : List B) → Each (λ x. P (f x)) xs → Each P (map f xs)
  Each-map f [] h = tt
  Each-map f (x ∷ xs) h = (h.0, Each-map f xs h.1)

  pub Each-flat_map : {B : Type 0} (f : B → List A) (xs : List B) → Each (λ x. Each P (f x)) xs → Each P (flat_map f xs)
  Each-flat_map f [] h = tt
  Each-flat_map f (x ∷ xs) h = Each-append (f x) (flat_map f xs) h.0 (Each-flat_map f xs h.1)

  pub All-from : (xs : List A) → Each P xs → All P xs
  All-from [] h = All-nil P
  All-from (x ∷ xs) h = All-cons P x xs h.0 (All-from xs h.1)

pub Each-weaker : {A : Type 0} (P Q : A → Type 0) → ((x : A) → P x → Q x) → (xs : List A) → Each P xs → Each Q xs
Each-weaker P Q f [] h = tt
Each-weaker P Q f (x ∷ xs) h = (f x h.0, Each-weaker P Q f xs h.1)

pub Each-range : (P : ℕ → Type 0) (a n : ℕ) → ((m : ℕ) → a ≤ m → m < a + n → P m) → Each P (range_with_len a n)
Each-range P a zero f = tt
Each-range P a (suc n) f =
    (f a (omega arith) (omega arith), Each-range P (a + 1) n (λ m low high. f m (omega arith) (omega arith)))

-- the elements that pass a test

module _ {A : Type 0} (p : A → Bool) where
  pub Each-passes : (xs : List A) → Each (λ x. p x ≡ true) (filter p xs)
  Each-passes [] = tt
  Each-passes (x ∷ xs) =
      elim (p x) as (λ t. p x ≡ t → Each (λ y. p y ≡ true) (cond t (x ∷ filter p xs) (filter p xs))) [
        | true ↦ λ e. (e, Each-passes xs)
        | false ↦ λ e. Each-passes xs
      ] refl

  pub filter_all : (xs : List A) → Each (λ x. p x ≡ true) xs → filter p xs ≡ xs
  filter_all [] h = refl
  filter_all (x ∷ xs) h = rw h.0 (ap (λ ys. x ∷ ys) (filter_all xs h.1))

  pub filter_none : (xs : List A) → Each (λ x. p x ≡ false) xs → filter p xs ≡ []
  filter_none [] h = refl
  filter_none (x ∷ xs) h = rw h.0 (filter_none xs h.1)

  -- filtering by a weaker test first changes nothing
  pub filter_weaker : (q : A → Bool) → ((x : A) → q x ≡ true → p x ≡ true)
      → (xs : List A) → filter q (filter p xs) ≡ filter q xs
  filter_weaker q f [] = refl
  filter_weaker q f (x ∷ xs) = elim (cases_Bool (p x)) [
    | inl e ↦ rw e (elim (q x) as (λ t. cond t (x ∷ filter q (filter p xs)) (filter q (filter p xs)) ≡ cond t (x ∷ filter q xs) (filter q xs)) [
      | true ↦ ap (λ ys. x ∷ ys) (filter_weaker q f xs)
      | false ↦ filter_weaker q f xs
    ])
    | inr e ↦ elim (cases_Bool (q x)) [
      | inl k ↦ absurd (let both : true ≡ false = sym (f x k) ∙ e in cc)
      | inr k ↦ rw (e, k) (filter_weaker q f xs)
    ]
  ]

pub filter_stronger : {A : Type 0} (p q : A → Bool) → ((x : A) → q x ≡ true → p x ≡ true)
    → (xs : List A) → filter p (filter q xs) ≡ filter q xs
filter_stronger p q f xs =
    filter_all p (filter q xs) (Each-weaker (λ x. q x ≡ true) (λ x. p x ≡ true) f (filter q xs) (Each-passes q xs))

-- the elements that a list has

module _ {A : Type 0} where
  pub Has-append_left : (xs ys : List A) (x : A) → Has xs x → Has (xs ++ ys) x
  Has-append_left [] ys x h = absurd h
  Has-append_left (y ∷ xs) ys x h = elim h [
    | inl e ↦ inl e
    | inr k ↦ inr (Has-append_left xs ys x k)
  ]

  pub Has-append_right : (xs ys : List A) (x : A) → Has ys x → Has (xs ++ ys) x
  Has-append_right [] ys x h = h
  Has-append_right (y ∷ xs) ys x h = inr (Has-append_right xs ys x h)

  pub Has-filter : (p : A → Bool) (xs : List A) (x : A) → Has xs x → p x ≡ true → Has (filter p xs) x
  Has-filter p [] x h k = absurd h
  Has-filter p (y ∷ xs) x h k = elim h [
    | inl e ↦ let passes : p y ≡ true = ap p e ∙ k in rw passes (inl e)
    | inr m ↦ elim (p y) as (λ t. Has (cond t (y ∷ filter p xs) (filter p xs)) x) [
      | true ↦ inr (Has-filter p xs x m k)
      | false ↦ Has-filter p xs x m k
    ]
  ]

pub Has-passed : {A : Type 0} (p : A → Bool) (xs : List A) (x : A) → Has (filter p xs) x → Has xs x × (p x ≡ true)
Has-passed p [] x h = absurd h
Has-passed p (y ∷ xs) x h = elim (cases_Bool (p y)) [
  | inl e ↦ elim (let kept : Has (y ∷ filter p xs) x = rw e at h in kept) [
    | inl same ↦ (inl same, ap p (sym same) ∙ e)
    | inr k ↦ let later = Has-passed p xs x k in (inr later.0, later.1)
  ]
  | inr e ↦
      let kept : Has (filter p xs) x = rw e at h in
      let later = Has-passed p xs x kept in (inr later.0, later.1)
]

pub Contains-from : {A : Type 0} (xs : List A) (x : A) → Has xs x → Contains xs x
Contains-from [] x h = absurd h
Contains-from (y ∷ xs) x h = elim h [
  | inl e ↦ (0, omega arith, e)
  | inr k ↦ let later = Contains-from xs x k in (suc later.0, omega (arith, later.1), later.2)
]

module _ {A B : Type 0} where
  pub Has-map : (f : A → B) (xs : List A) (x : A) → Has xs x → Has (map f xs) (f x)
  Has-map f [] x h = absurd h
  Has-map f (y ∷ xs) x h = elim h [
    | inl e ↦ inl (ap f e)
    | inr k ↦ inr (Has-map f xs x k)
  ]

  pub Has-flat_map : (f : A → List B) (xs : List A) (x : A) (y : B) → Has xs x → Has (f x) y → Has (flat_map f xs) y
  Has-flat_map f [] x y h k = absurd h
  Has-flat_map f (z ∷ xs) x y h k = elim h [
    | inl e ↦ Has-append_left (f z) (flat_map f xs) y (subst (λ w. Has (f w) y) (sym e) k)
    | inr m ↦ Has-append_right (f z) (flat_map f xs) y (Has-flat_map f xs x y m k)
  ]

pub Has-range : (a n m : ℕ) → a ≤ m → m < a + n → Has (range_with_len a n) m
Has-range a zero m low high = absurd (omega arith)
Has-range a (suc n) m low high = elim (cases_eq a m) [
  | inl e ↦ inl e
  | inr ne ↦ inr (Has-range (a + 1) n m (omega arith) (omega arith))
]

-- relations between each two elements

module _ {A : Type 0} (R : A → A → Type 0) where
  pub Pairs-append : (xs ys : List A) → Pairs R xs → Pairs R ys → Each (λ x. Each (R x) ys) xs → Pairs R (xs ++ ys)
  Pairs-append [] ys h k m = k
  Pairs-append (x ∷ xs) ys h k m = (Each-append (R x) xs ys h.0 m.0, Pairs-append xs ys h.1 k m.1)

  pub Pairs-filter : (p : A → Bool) (xs : List A) → Pairs R xs → Pairs R (filter p xs)
  Pairs-filter p [] h = tt
  Pairs-filter p (x ∷ xs) h = elim (p x) as (λ t. Pairs R (cond t (x ∷ filter p xs) (filter p xs))) [
    | true ↦ (Each-filter (R x) p xs h.0, Pairs-filter p xs h.1)
    | false ↦ Pairs-filter p xs h.1
  ]

  pub Pairs-weaker : (S : A → A → Type 0) → ((x y : A) → R x y → S x y) → (xs : List A) → Pairs R xs → Pairs S xs
  Pairs-weaker S f [] h = tt
  Pairs-weaker S f (x ∷ xs) h = (Each-weaker (R x) (S x) (f x) xs h.0, Pairs-weaker S f xs h.1)

  pub AllPairs-from : (xs : List A) → Pairs R xs → AllPairs R xs
  AllPairs-from [] h = λ i j d lt l. absurd (omega arith)
  AllPairs-from (x ∷ xs) h = AllPairs-cons R x xs (All-from (R x) xs h.0) (AllPairs-from xs h.1)

pub Pairs-range : (a n : ℕ) → Pairs (λ x y. x < y) (range_with_len a n)
Pairs-range a zero = tt
Pairs-range a (suc n) = (Each-range (λ y. a < y) (a + 1) n (λ m low high. omega arith), Pairs-range (a + 1) n)

module _ {A B : Type 0} (R : A → A → Type 0) (S : B → B → Type 0) where
  pub Pairs-map : (f : A → B) → ((x y : A) → R x y → S (f x) (f y)) → (xs : List A) → Pairs R xs → Pairs S (map f xs)
  Pairs-map f g [] h = tt
  Pairs-map f g (x ∷ xs) h =
      (Each-map (S (f x)) f xs (Each-weaker (R x) (λ y. S (f x) (f y)) (g x) xs h.0), Pairs-map f g xs h.1)

  each_of_blocks : (f : A → List B) (us : List B) (xs : List A)
      → Each (λ y. Each (λ u. Each (S u) (f y)) us) xs → Each (λ u. Each (S u) (flat_map f xs)) us
  each_of_blocks f [] xs h = tt
  each_of_blocks f (u ∷ us) xs h =
      let first : A → Type 0 = λ y. Each (S u) (f y) in
      let others : A → Type 0 = λ y. Each (λ v. Each (S v) (f y)) us in
      let both : A → Type 0 = λ y. Each (λ v. Each (S v) (f y)) (u ∷ us) in (
        Each-flat_map (S u) f xs (Each-weaker both first (λ y k. k.0) xs h),
        each_of_blocks f us xs (Each-weaker both others (λ y k. k.1) xs h),
      )

  -- lists that are joined: the relation holds within each of them, and between the elements of an
  -- earlier and a later one
  pub Pairs-flat_map : (f : A → List B) → ((x : A) → Pairs S (f x))
      → ((x y : A) → R x y → Each (λ u. Each (S u) (f y)) (f x)) → (xs : List A) → Pairs R xs → Pairs S (flat_map f xs)
  Pairs-flat_map f each next [] h = tt
  Pairs-flat_map f each next (x ∷ xs) h =
      let later = Each-weaker (R x) (λ y. Each (λ u. Each (S u) (f y)) (f x)) (next x) xs h.0 in
      Pairs-append S (f x) (flat_map f xs) (each x) (Pairs-flat_map f each next xs h.1) (each_of_blocks f (f x) xs later)
