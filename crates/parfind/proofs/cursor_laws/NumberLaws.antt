-- Canonical decimal: reading it gives its number, and a number is written in no other way.
use Rattle.std.proofs.Common.{◌≡◌, ℕ, ◌^◌, ◌<◌, ◌≤◌, true, inl, inr, List, [], ◌∷◌, length, get_or, nat_lt, Some, Result, Ok, Err, refl, sym, ap, ◌∙◌, arith, rules}
use Rattle.std.specs.Char.{is_ascii_digit}
use Rattle.std.specs.Fmt.{decimal}
use Rattle.std.specs.List.{list_all}
use Rattle.std.specs.Result.{result_ok, OkIff}
use Rattle.std.specs.Str.{IsUtf8}
use Rattle.std.specs.Str.Parse.{digits_value, ParsesUnsigned}
use Rattle.std.proofs.lemmas.Bool.{cases_Bool, cases_eq, eqb-true, ne_eqb, eq-eqb, lt-ltb, ltb-true}
use Rattle.std.proofs.lemmas.Fmt.{IsAscii-from_digits, decimal-digits_value, decimal_digit, decimal_nonempty, digits_decimal, digits_value-decimal, first_decimal}
use Rattle.std.proofs.lemmas.List.{nil_from_length}
use Rattle.std.proofs.lemmas.Str.{IsUtf8-from_ascii}
use Rattle.std.proofs.lemmas.Str.Parse.{IsNumeralModel, numerals_by_value, parse_digits}
use Rattle.parfind.specs.CursorText.{is_canonical, number_of}

own : IsNumeralModel (λ ds. list_all is_ascii_digit ds ≡ true) (digits_value 10)
own = numerals_by_value _ (search rules)

-- canonical decimal is digits, of which there is at least one; and only `0` begins with a zero
pub record IsCanonical (s : List ℕ) : Type 0 where
  pub digits : list_all is_ascii_digit s ≡ true
  pub some : 0 < length s
  pub first : get_or s 0 0 ≡ 48 → length s ≡ 1

pub canonical_parts : (s : List ℕ) → is_canonical s ≡ true → IsCanonical s
canonical_parts [] h = cc h
canonical_parts (x ∷ xs) h =
    elim (cases_eq x 48) [
      | inl zero_first ↦
          let alone : length xs ≡ 0 = eqb-true (length xs) 0 (rw (eq-eqb x 48 zero_first) at h) in
          record {
            digits = rw (nil_from_length xs alone, zero_first) refl;
            some = omega arith;
            first = λ _. omega arith;
          }
      | inr other ↦
          record {
            digits = rw (ne_eqb x 48 other) at h;
            some = omega arith;
            first = λ e. absurd (other e);
          }
    ]

pub canonical_whole : (s : List ℕ) → IsCanonical s → is_canonical s ≡ true
canonical_whole [] c = absurd (omega (arith, c.some))
canonical_whole (x ∷ xs) c =
    elim (cases_eq x 48) [
      | inl zero_first ↦
          let alone : length xs ≡ 0 = omega (arith, c.first zero_first) in
          rw (eq-eqb x 48 zero_first) (eq-eqb (length xs) 0 alone)
      | inr other ↦ rw (ne_eqb x 48 other) c.digits
    ]

-- canonical decimal is text (valid UTF-8)
pub IsUtf8-canonical : (s : List ℕ) → is_canonical s ≡ true → IsUtf8 s
IsUtf8-canonical s h =
    IsUtf8-from_ascii s (IsAscii-from_digits s (own.to s (canonical_parts s h).digits))

number_by : {E : Type 0} (limit : ℕ) (s : List ℕ) (r : Result ℕ E) → is_canonical s ≡ true
    → 0 < length s
    → OkIff r ((0 < length s) × (digits_value 10 s < limit)) (digits_value 10 s)
    → result_ok r ≡ number_of limit s
number_by limit s (Ok n) canonical some told =
    rw (canonical, lt-ltb (digits_value 10 s) limit told.0.1) (ap Some told.1)
number_by limit s (Err e) canonical some told =
    elim (cases_Bool (nat_lt (digits_value 10 s) limit)) [
      | inl below ↦ absurd (told (some, ltb-true (digits_value 10 s) limit below))
      | inr above ↦ rw (canonical, above) refl
    ]

-- parsing canonical decimal gives its number
pub number_of-parsed : {E : Type 0} (k : ℕ) (s : List ℕ) (r : Result ℕ E)
    → ParsesUnsigned k 10 s r → is_canonical s ≡ true → result_ok r ≡ number_of (2 ^ k) s
number_of-parsed k s r h canonical =
    let c = canonical_parts s canonical in
    number_by (2 ^ k) s r canonical c.some (parse_digits own k s r h c.digits)

-- if a text is read as a number, it is the number's decimal
pub decimal-number_of : (limit n : ℕ) (s : List ℕ) → limit ≤ 2 ^ 64 → number_of limit s ≡ Some n
    → (s ≡ decimal n) × (n < limit)
decimal-number_of limit n s fits h =
    elim (cases_Bool (is_canonical s)) [
      | inr other ↦ cc (rw other at h)
      | inl canonical ↦
          elim (cases_Bool (nat_lt (digits_value 10 s) limit)) [
            | inr above ↦ cc (rw (canonical, above) at h)
            | inl below ↦
                let is : digits_value 10 s ≡ n = cc (rw (canonical, below) at h) in
                let c = canonical_parts s canonical in
                let small = ltb-true (digits_value 10 s) limit below in
                let whole = decimal-digits_value own s c.digits c.some c.first (omega arith) in
                (sym whole ∙ ap decimal is, omega arith)
          ]
    ]

canonical_decimal : (n : ℕ) → n < 2 ^ 64 → IsCanonical (decimal n)
canonical_decimal n small = record {
  digits = digits_decimal own n small;
  some = decimal_nonempty n small;
  first = λ zero_first.
      elim (cases_eq n 0) [
        | inl zero ↦ rw (zero, decimal_digit 0 (omega arith)) refl
        | inr other ↦ absurd (omega (arith, first_decimal n (omega arith) small))
      ];
}

-- reading the decimal of a number gives the number
pub number_of-decimal : (limit n : ℕ) → limit ≤ 2 ^ 64 → n < limit
    → number_of limit (decimal n) ≡ Some n
number_of-decimal limit n fits below =
    let small : n < 2 ^ 64 = omega arith in
    let canonical = canonical_whole (decimal n) (canonical_decimal n small) in
    rw (canonical, digits_value-decimal own n small, lt-ltb n limit below) refl

pub digits-decimal : (n : ℕ) → n < 2 ^ 64 → list_all is_ascii_digit (decimal n) ≡ true
digits-decimal n small = digits_decimal own n small
