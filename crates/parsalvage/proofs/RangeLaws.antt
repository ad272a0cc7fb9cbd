-- Consecutive numbers, and the ones among them that pass a test.
use Rattle.std.proofs.Common.{◌≡◌, ◌<◌, ◌≤◌, ◌+◌, ◌-◌, ◌∙◌, ℕ, zero, suc, Bool, true, false, cond, List, [], ◌∷◌, ◌++◌, filter, map, ap, refl, sym, arith, ⊎_elim}
use Rattle.std.specs.List.{range_with_len}
use Rattle.std.proofs.Common.{inl, inr, ◌⊎◌}
use Rattle.std.proofs.lemmas.Bool.{cases_eq, cases_Bool, cond-true, cond-false}
use Rattle.std.proofs.lemmas.List.Elements.{filter-append}

-- if a mapped list is empty, the list is empty
pub nothing_mapped : {X Y : Type 0} (f : X → Y) (xs : List X) → map f xs ≡ [] → xs ≡ []
nothing_mapped f [] e = refl
nothing_mapped f (x ∷ xs) e = cc

-- consecutive numbers, split in two parts
pub range_with_len-split : (a m n : ℕ) → range_with_len a (m + n) ≡ range_with_len a m ++ range_with_len (a + m) n
range_with_len-split a zero n =
    let e : 0 + n ≡ n = omega arith in
    let f : a ≡ a + 0 = omega arith in
    ap (range_with_len a) e ∙ ap (λ k. range_with_len k n) f
range_with_len-split a (suc m) n =
    let e : suc m + n ≡ suc (m + n) = omega arith in
    let f : (a + 1) + m ≡ a + suc m = omega arith in
    ap (range_with_len a) e
    ∙ ap (λ (xs : List ℕ). a ∷ xs) (range_with_len-split (a + 1) m n ∙ ap (λ k. range_with_len (a + 1) m ++ range_with_len k n) f)

-- the numbers from a up to c that pass are those from a up to b and those from b up to c
pub filter_between : (p : ℕ → Bool) (a b c : ℕ) → a ≤ b → b ≤ c
    → filter p (range_with_len a (c - a)) ≡ filter p (range_with_len a (b - a)) ++ filter p (range_with_len b (c - b))
filter_between p a b c low high =
    let all : c - a ≡ (b - a) + (c - b) = omega arith in
    let mid : a + (b - a) ≡ b = omega arith in
    ap (λ (n : ℕ). filter p (range_with_len a n)) all
    ∙ (ap (filter p) (range_with_len-split a (b - a) (c - b) ∙ ap (λ (k : ℕ). range_with_len a (b - a) ++ range_with_len k (c - b)) mid)
    ∙ filter-append p (range_with_len a (b - a)) (range_with_len b (c - b)))

-- if no number passes, the filtered list is empty
pub filter_none : (p : ℕ → Bool) (a n : ℕ) → ((k : ℕ) → a ≤ k → k < a + n → p k ≡ false) → filter p (range_with_len a n) ≡ []
filter_none p a zero none = refl
filter_none p a (suc n) none =
    cond-false (p a) _ _ (none a (omega arith) (omega arith))
    ∙ filter_none p (a + 1) n (λ k low high. none k (omega arith) (omega arith))

pub filter_none_between : (p : ℕ → Bool) (a b : ℕ) → ((k : ℕ) → a ≤ k → k < b → p k ≡ false) → filter p (range_with_len a (b - a)) ≡ []
filter_none_between p a b none = filter_none p a (b - a) (λ k low high. none k low (omega arith))

-- a range of one number, which passes the test or doesn't
pub filter_one : (p : ℕ → Bool) (a : ℕ) → filter p (range_with_len a ((a + 1) - a)) ≡ cond (p a) (a ∷ []) []
filter_one p a = let one : (a + 1) - a ≡ suc 0 = omega arith in ap (λ (n : ℕ). filter p (range_with_len a n)) one

first_or_later : (a k : ℕ) → a ≤ k → (k ≡ a) ⊎ (a + 1 ≤ k)
first_or_later a k low = ⊎_elim (λ same. inl same) (λ other. inr (omega (arith, other))) (cases_eq k a)

-- x is the first number from a on that passes, and `later` has those after it
-- that pass, up to a + n
pub record PassesFirst (p : ℕ → Bool) (a n x : ℕ) (later : List ℕ) : Type 0 where
  pub low : a ≤ x
  pub high : x < a + n
  pub passes : p x ≡ true
  pub none : (k : ℕ) → a ≤ k → k < x → p k ≡ false
  pub later_are : later ≡ filter p (range_with_len (x + 1) ((a + n) - (x + 1)))

passes_now : (p : ℕ → Bool) (a n x : ℕ) (later : List ℕ) → p a ≡ true → a ∷ filter p (range_with_len (a + 1) n) ≡ x ∷ later
    → PassesFirst p a (suc n) x later
passes_now p a n x later passed e =
    let here : a ≡ x = cc in
    let rest : filter p (range_with_len (a + 1) n) ≡ later = cc in
    let count : n ≡ (a + suc n) - (a + 1) = omega arith in record {
      low = omega arith;
      high = omega arith;
      passes = ap p (sym here) ∙ passed;
      none = λ k low high. absurd (omega arith);
      later_are = sym rest ∙ (ap (λ (m : ℕ). filter p (range_with_len (a + 1) m)) count
          ∙ ap (λ (y : ℕ). filter p (range_with_len (y + 1) ((a + suc n) - (y + 1)))) here);
    }

passes_later : (p : ℕ → Bool) (a n x : ℕ) (later : List ℕ) → p a ≡ false → PassesFirst p (a + 1) n x later → PassesFirst p a (suc n) x later
passes_later p a n x later failed rest =
    let end : (a + 1) + n ≡ a + suc n = omega arith in record {
      low = omega (arith, rest.low);
      high = omega (arith, rest.high);
      passes = rest.passes;
      none = λ k low high.
          ⊎_elim (λ at_first. ap p at_first ∙ failed) (λ behind. rest.none k behind high) (first_or_later a k low);
      later_are = rest.later_are ∙ ap (λ (m : ℕ). filter p (range_with_len (x + 1) (m - (x + 1)))) end;
    }

pub passes_first : (p : ℕ → Bool) (a n x : ℕ) (later : List ℕ) → filter p (range_with_len a n) ≡ x ∷ later → PassesFirst p a n x later
passes_first p a zero x later e = cc
passes_first p a (suc n) x later e =
    ⊎_elim
    (λ yes. passes_now p a n x later yes (sym (cond-true (p a) _ _ yes) ∙ e))
    (λ no. passes_later p a n x later no (passes_first p (a + 1) n x later (sym (cond-false (p a) _ _ no) ∙ e)))
    (cases_Bool (p a))

-- if the filtered list is empty, no number passes
pub passes_none : (p : ℕ → Bool) (a n : ℕ) → filter p (range_with_len a n) ≡ [] → (k : ℕ) → a ≤ k → k < a + n → p k ≡ false
passes_none p a zero e k low high = absurd (omega arith)
passes_none p a (suc n) e k low high =
    ⊎_elim
    (λ yes. let one : a ∷ filter p (range_with_len (a + 1) n) ≡ [] = sym (cond-true (p a) _ _ yes) ∙ e in cc)
    (λ no. ⊎_elim (λ at_first. ap p at_first ∙ no)
    (λ behind. passes_none p (a + 1) n (sym (cond-false (p a) _ _ no) ∙ e) k behind (omega arith))
    (first_or_later a k low))
    (cases_Bool (p a))
