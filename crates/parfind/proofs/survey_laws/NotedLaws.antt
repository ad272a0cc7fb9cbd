-- The slices that a survey finds at one place, one after another, and those that it doesn't find.
use Rattle.std.proofs.Common.{◌≡◌, ℕ, ◌+◌, ◌<◌, Bool, true, false, ◌||◌, ◌&&◌, ◌==◌, not, nat_lt, List, [], ◌∷◌, length, refl, sym, ap, ◌∙◌, arith, Some, None, inl, inr, get_or-set_same, get_or-set_other, slice_set}
use Rattle.std.specs.List.{list_any, range_with_len}
use Rattle.std.proofs.lemmas.Bool.{cases_Bool, cases_eq, cases_lt, eq-eqb, ne_eqb, or_cases, or_left, or_right, lt-ltb, le-ltb, false_from_ne_true, and_parts, and_from, not-true, not_from_false}
use Rattle.std.proofs.Math.Bool.{or-false, or_assoc}
use Rattle.parset.specs.declared.recovery_set.SetSlice.{SetSlice}
use Rattle.parfind.proofs.place_laws.ItemLaws.{Has, Has-range}
use Rattle.parfind.proofs.place_laws.SeenLaws.{passes_there}
use Rattle.parwindow.specs.Index.{SliceSet, slice_passes}
use Rattle.parwindow.specs.Missing.{has_unfound, found_at}
use Rattle.parwindow.specs.Least.{IsLeastFrom}
use Rattle.parfind.specs.Noting.{FindsMore}

-- two tests are equal if each passes whenever the other does
pub same_truth : (a b : Bool) → (a ≡ true → b ≡ true) → (b ≡ true → a ≡ true) → a ≡ b
same_truth a b f g = elim (cases_Bool a) [
  | inl h ↦ h ∙ sym (f h)
  | inr e ↦ e ∙ sym (false_from_ne_true b (λ h. let both : true ≡ false = sym (g h) ∙ e in cc))
]

-- some element of a list passes a test

pub any_has : {A : Type 0} (p : A → Bool) (xs : List A) → list_any p xs ≡ true → (x : A) × Has xs x × (p x ≡ true)
any_has p [] h = cc
any_has p (x ∷ xs) h = elim (or_cases (p x) (list_any p xs) h) [
  | inl e ↦ (x, inl refl, e)
  | inr k ↦ let later = any_has p xs k in (later.0, inr later.1, later.2)
]

pub has_any : {A : Type 0} (p : A → Bool) (xs : List A) (x : A) → Has xs x → p x ≡ true → list_any p xs ≡ true
has_any p [] x has h = absurd has
has_any p (y ∷ ys) x has h = elim has [
  | inl e ↦ or_left (p y) (list_any p ys) (ap p e ∙ h)
  | inr k ↦ or_right (p y) (list_any p ys) (has_any p ys x k h)
]

none_range : (p : ℕ → Bool) (n : ℕ) → ((k : ℕ) → p k ≡ true → ⊥) → list_any p (range_with_len 0 n) ≡ false
none_range p n f = false_from_ne_true _ (λ h. let some = any_has p (range_with_len 0 n) h in f some.0 some.2)

-- slices that pass a test and aren't found

missing_some : (set : SliceSet) (found : List Bool) (test : SetSlice → Bool) (n : ℕ) → slice_passes set.slices test n ≡ true
    → found_at found n ≡ false → has_unfound set.slices found test ≡ true
missing_some set found test n has none =
    let there : n < length set.slices = passes_there set test n has in
    has_any (λ k. slice_passes set.slices test k && not (found_at found k)) (range_with_len 0 (length set.slices)) n
    (Has-range 0 (length set.slices) n (omega arith) (omega arith)) (and_from _ _ has (not_from_false _ none))

missing_none : (set : SliceSet) (found : List Bool) (test : SetSlice → Bool)
    → ((k : ℕ) → slice_passes set.slices test k ≡ true → found_at found k ≡ true) → has_unfound set.slices found test ≡ false
missing_none set found test all =
    none_range (λ k. slice_passes set.slices test k && not (found_at found k)) (length set.slices) (λ k h.
    let parts = and_parts (slice_passes set.slices test k) (not (found_at found k)) h in
    let both : true ≡ false = sym (all k parts.0) ∙ not-true (found_at found k) parts.1 in cc)

-- if no slice that passes a test is missing, each slice that passes it is found
pub passing_found : (set : SliceSet) (found : List Bool) (test : SetSlice → Bool) → has_unfound set.slices found test ≡ false
    → (k : ℕ) → slice_passes set.slices test k ≡ true → found_at found k ≡ true
passing_found set found test known k has = elim (cases_Bool (found_at found k)) [
  | inl marked ↦ marked
  | inr none ↦ let both : true ≡ false = sym (missing_some set found test k has none) ∙ known in cc
]

-- if each slice that passes a first test and isn't found now passes a second test and wasn't found
-- before, and there is a slice of the first kind, there is one of the second
pub missing_there : (set : SliceSet) (was now : List Bool) (first second : SetSlice → Bool)
    → ((k : ℕ) → slice_passes set.slices first k ≡ true → found_at now k ≡ false
    → (slice_passes set.slices second k ≡ true) × (found_at was k ≡ false))
    → has_unfound set.slices now first ≡ true → has_unfound set.slices was second ≡ true
missing_there set was now first second there missing = elim (cases_Bool (has_unfound set.slices was second)) [
  | inl is ↦ is
  | inr known ↦
      let nowhere : has_unfound set.slices now first ≡ false = missing_none set now first (λ k has. elim (cases_Bool (found_at now k)) [
        | inl marked ↦ marked
        | inr none ↦
            let held = there k has none in
            let both : true ≡ false = sym (missing_some set was second k held.0 held.1) ∙ known in cc
      ]) in
      let both : true ≡ false = sym missing ∙ nowhere in cc
]

-- a slice that isn't found now wasn't found before, since a slice that is found stays found
pub was_none : (was now : List Bool) (k : ℕ) → (found_at was k ≡ true → found_at now k ≡ true) → found_at now k ≡ false → found_at was k ≡ false
was_none was now k kept none = false_from_ne_true (found_at was k) (λ marked. let both : true ≡ false = sym (kept marked) ∙ none in cc)

pub missing_was : (set : SliceSet) (was now : List Bool) (test : SetSlice → Bool) → ((k : ℕ) → found_at was k ≡ true → found_at now k ≡ true)
    → has_unfound set.slices now test ≡ true → has_unfound set.slices was test ≡ true
missing_was set was now test kept =
    missing_there set was now test test (λ k has none. (has, was_none was now k (kept k) none))

-- if each slice that passes a test is found, noting those that pass a stronger test changes nothing
pub fits_found : (set : SliceSet) (found : List Bool) (fit test : SetSlice → Bool)
    → ((n : ℕ) → slice_passes set.slices fit n ≡ true → slice_passes set.slices test n ≡ true) → has_unfound set.slices found test ≡ false
    → FindsMore (slice_passes set.slices fit) found found
fits_found set found fit test among known n =
    same_truth (found_at found n) (found_at found n || slice_passes set.slices fit n) (or_left (found_at found n) (slice_passes set.slices fit n)) (λ h.
    elim (or_cases (found_at found n) (slice_passes set.slices fit n) h) [
      | inl marked ↦ marked
      | inr fits ↦ passing_found set found test known n (among n fits)
    ])

-- a slice that was found before others were stays found
pub found_kept : (test : ℕ → Bool) (was now : List Bool) → FindsMore test was now → (n : ℕ) → found_at was n ≡ true → found_at now n ≡ true
found_kept test was now marks n marked = marks n ∙ or_left (found_at was n) (test n) marked

pub found_on : (first second both : ℕ → Bool) (was mid now : List Bool) → ((n : ℕ) → (first n || second n) ≡ both n)
    → FindsMore first was mid → FindsMore second mid now → FindsMore both was now
found_on first second both was mid now are one other n =
    other n ∙ ap (λ (b : Bool). b || second n) (one n) ∙ or_assoc (found_at was n) (first n) (second n)
    ∙ ap (λ (b : Bool). found_at was n || b) (are n)

pub found_none : (test : ℕ → Bool) (found : List Bool) → ((n : ℕ) → test n ≡ false) → FindsMore test found found
found_none test found none n = rw (none n) (sym (or-false (found_at found n)))

-- one more slice is found

pub found_at-set : (marks : List Bool) (k n : ℕ) → k < length marks → found_at (slice_set marks k true) n ≡ (found_at marks n || k == n)
found_at-set marks k n within = elim (cases_eq k n) [
  | inl same ↦
      let set : found_at (slice_set marks k true) k ≡ true = get_or-set_same marks k true false within in
      rw (← same, set) (sym (or_right (found_at marks k) (k == k) (eq-eqb k k refl)))
  | inr other ↦
      let kept : found_at (slice_set marks k true) n ≡ found_at marks n = get_or-set_other marks k n true false (λ e. other (sym e)) in
      rw (kept, ne_eqb k n other) (sym (or-false (found_at marks n)))
]

-- exactly the slices below number k that pass a test are found, besides those that were found
-- before
abbrev pub FindsBelow : (ℕ → Bool) → ℕ → List Bool → List Bool → Type 0
FindsBelow test k was now = (n : ℕ) → found_at now n ≡ (found_at was n || (nat_lt n k && test n))

module _ (test : ℕ → Bool) (was now : List Bool) where
  pub below_none : FindsBelow test 0 was was
  below_none n = rw (le-ltb n 0 (omega arith)) (sym (or-false (found_at was n)))

  pub below_all : (k : ℕ) → IsLeastFrom test k None → FindsBelow test k was now → FindsMore test was now
  below_all k none so_far n =
      so_far n ∙ ap (λ b. found_at was n || b) (elim (cases_lt n k) [
        | inl less ↦ rw (lt-ltb n k less) refl
        | inr more ↦ rw (le-ltb n k more) (sym (false_from_ne_true (test n) (none n more)))
      ])

  -- the next slice that passes the test
  next_below : (k m n : ℕ) → IsLeastFrom test k (Some m) → ((nat_lt n k && test n) || m == n) ≡ (nat_lt n (m + 1) && test n)
  next_below k m n least = elim (cases_eq m n) [
    | inl same ↦
        let passes : test n ≡ true = ap test (sym same) ∙ least.passes in
        rw (eq-eqb m n same, lt-ltb n (m + 1) (omega arith), passes) (or_right (nat_lt n k && true) true refl)
    | inr other ↦
        rw (ne_eqb m n other) (or-false (nat_lt n k && test n) ∙ elim (cases_lt n k) [
          | inl less ↦ rw (lt-ltb n k less, lt-ltb n (m + 1) (omega (arith, least.at_or_above))) refl
          | inr more ↦ elim (cases_lt n m) [
            | inl between ↦
                rw (le-ltb n k more, lt-ltb n (m + 1) (omega arith)) (sym (false_from_ne_true (test n) (least.least n more between)))
            | inr past ↦ rw (le-ltb n k more, le-ltb n (m + 1) (omega arith)) refl
          ]
        ])
  ]

  pub below_more : (k m : ℕ) → IsLeastFrom test k (Some m) → m < length now → FindsBelow test k was now
      → FindsBelow test (m + 1) was (slice_set now m true)
  below_more k m least there so_far n =
      found_at-set now m n there ∙ ap (λ b. b || m == n) (so_far n)
      ∙ or_assoc (found_at was n) (nat_lt n k && test n) (m == n)
      ∙ ap (λ b. found_at was n || b) (next_below k m n least)
