-- A roll goes from register to register, up to the first that has a property.
use Rattle.std.proofs.Common.{◌≡◌, ◌⊎◌, ℕ, ◌+◌, ◌-◌, ◌<◌, ◌≤◌, true, false, Bool, refl, sym, ◌∙◌, inl, inr, arith, IsTrue, ◌↔◌}
use Rattle.std.proofs.lemmas.Bool.{cases_lt}
use Rattle.parwindow.specs.Rolling.{StopsAt}
use Rattle.parwindow.specs.declared.rolling.roll.Roll.{Roll}

-- the register after i bytes, if neither it nor an earlier one has the property
pub record GoesOn (Has : ℕ → Type 0) (at : ℕ → ℕ) (i : ℕ) (register : ℕ) : Type 0 where
  pub here : register ≡ at i
  pub none : (k : ℕ) → 0 < k → k ≤ i → ¬ Has (at k)

pub begins : (Has : ℕ → Type 0) (at : ℕ → ℕ) (r : ℕ) → r ≡ at 0 → GoesOn Has at 0 r
begins Has at r is = record { here = is; none = λ k some few. absurd (omega arith) }

pub goes_on : (Has : ℕ → Type 0) (at : ℕ → ℕ) (i r s : ℕ) → GoesOn Has at i r → s ≡ at (i + 1)
    → ¬ Has s
    → GoesOn Has at (i + 1) s
goes_on Has at i r s on is misses = record {
  here = is;
  none = λ k some few. elim (cases_lt k (i + 1)) [
    | inl less ↦ on.none k some (omega arith)
    | inr not_less ↦ let last : k ≡ i + 1 = omega arith in rw (last, ← is) misses
  ];
}

pub stops : (Has : ℕ → Type 0) (at : ℕ → ℕ) (i r s n : ℕ) → GoesOn Has at i r → s ≡ at (i + 1)
    → Has s → i + 1 ≤ n
    → StopsAt Has at n (record { count = i + 1; register = s; hit = true })
stops Has at i r s n on is has within = record {
  within = within;
  register = is;
  before = λ k some less. on.none k some (omega arith);
  found = λ _. (omega arith, rw (← is) has);
  ended = λ wrong. cc;
}

pub ends : (Has : ℕ → Type 0) (at : ℕ → ℕ) (r n : ℕ) → GoesOn Has at n r
    → StopsAt Has at n (record { count = n; register = r; hit = false })
ends Has at r n on = record {
  within = omega arith;
  register = on.here;
  before = λ k some less. on.none k some (omega arith);
  found = λ wrong. cc;
  ended = λ _. (refl, λ some. on.none n some (omega arith));
}

pub ends_at : (Has : ℕ → Type 0) (at : ℕ → ℕ) (i r s n : ℕ) (b : Bool) → GoesOn Has at i r
    → s ≡ at (i + 1) → i + 1 ≡ n
    → (IsTrue b ↔ Has s) → StopsAt Has at n (record { count = n; register = s; hit = b })
ends_at Has at i r s n true on is last tells =
    rw (← last) (stops Has at i r s (i + 1) on is (tells.0 refl) (omega arith))
ends_at Has at i r s n false on is last tells =
    rw (← last) (ends Has at s (i + 1)
    (goes_on Has at i r s on is (λ has. let wrong : false ≡ true = tells.1 has in cc)))

-- a test that returns whether a property holds
pub told : (b has : Bool) → b ≡ has → IsTrue b ↔ IsTrue has
told b has is = (λ yes. sym is ∙ yes, λ yes. is ∙ yes)

-- if the test returns false, the property doesn't hold
pub refuses : (b : Bool) (P : Type 0) → (IsTrue b ↔ P) → b ≡ false → ¬ P
refuses b P tells missed has = let yes : b ≡ true = tells.1 has in cc

-- two registers at once
pub goes_on_twice : (Has : ℕ → Type 0) (at : ℕ → ℕ) (i r s t : ℕ) → GoesOn Has at i r
    → s ≡ at (i + 1) → ¬ Has s
    → t ≡ at (i + 2) → ¬ Has t → GoesOn Has at (i + 2) t
goes_on_twice Has at i r s t on is misses next_is next_misses =
    let two : i + 1 + 1 ≡ i + 2 = omega arith in
    rw (← two) (goes_on Has at (i + 1) s t (goes_on Has at i r s on is misses) (rw two next_is)
    next_misses)

pub stops_twice : (Has : ℕ → Type 0) (at : ℕ → ℕ) (i r s t n : ℕ) → GoesOn Has at i r
    → s ≡ at (i + 1) → ¬ Has s
    → t ≡ at (i + 2) → Has t → i + 2 ≤ n
    → StopsAt Has at n (record { count = i + 2; register = t; hit = true })
stops_twice Has at i r s t n on is misses next_is has within =
    let two : i + 1 + 1 ≡ i + 2 = omega arith in
    rw (← two) (stops Has at (i + 1) s t n (goes_on Has at i r s on is misses) (rw two next_is) has
    (omega arith))

-- a roll stops at the same point in registers that are equal up to n; and one stretch of a
-- roll follows another
pub along : (Has : ℕ → Type 0) (at other : ℕ → ℕ) (n : ℕ) (s : Roll)
    → ((k : ℕ) → k ≤ n → other k ≡ at k)
    → StopsAt Has other n s → StopsAt Has at n s
along Has at other n s same stops = record {
  within = stops.within;
  register = stops.register ∙ same s.count stops.within;
  before = λ k some less. let few : k < s.count =
      less in rw (← same k (omega (arith, stops.within))) (stops.before k some less);
  found = λ hit. ((stops.found hit).0, rw (← same s.count stops.within) (stops.found hit).1);
  ended = λ missed. (
    (stops.ended missed).0,
    λ some. rw (← same n (omega arith))
        ((stops.ended missed).1 some),
  );
}

pub joined : (Has : ℕ → Type 0) (at : ℕ → ℕ) (m n : ℕ) (a b : Roll) → a.hit ≡ false
    → StopsAt Has at m a
    → StopsAt Has (λ k. at (m + k)) n b
    → StopsAt Has at (m + n)
    (record { count = a.count + b.count; register = b.register; hit = b.hit })
joined Has at m n a b missed first second =
    let whole : a.count ≡ m = (first.ended missed).0 in
    rw whole (record {
      within = omega (arith, second.within);
      register = second.register;
      before = λ k some less. elim (cases_lt k m) [
        | inl below ↦ first.before k some (omega arith)
        | inr above ↦ elim (cases_lt m k) [
          | inl more ↦
              let e : m + (k - m) ≡ k = omega arith in
              rw e at (second.before (k - m) (omega arith) (omega arith))
          | inr same ↦ let e : k ≡ m = omega arith in rw e ((first.ended missed).1 (omega arith))
        ]
      ];
      found = λ hit. (omega (arith, (second.found hit).0), (second.found hit).1);
      ended = λ miss. (
        omega (arith, (second.ended miss).0),
        λ some. elim (cases_lt 0 n) [
          | inl more ↦ (second.ended miss).1 more
          | inr none ↦ let e : m + n ≡ m = omega arith in
              rw e ((first.ended missed).1 (omega arith))
        ],
      );
    })

-- a roll over m registers is a roll over n if it stopped with a hit or came to the end of n
pub arrived : (Has : ℕ → Type 0) (at : ℕ → ℕ) (m n : ℕ) (s : Roll) → StopsAt Has at m s
    → (s.hit ≡ true) ⊎ (s.count ≡ n) → m ≤ n
    → StopsAt Has at n s
arrived Has at m n s stops (inl hit) few = record {
  within = omega (arith, stops.within);
  register = stops.register;
  before = stops.before;
  found = stops.found;
  ended = λ missed. let wrong : true ≡ false = sym hit ∙ missed in cc;
}
arrived Has at m n s stops (inr whole) few =
    let e : m ≡ n = omega (arith, stops.within) in
    rw (← e) stops
